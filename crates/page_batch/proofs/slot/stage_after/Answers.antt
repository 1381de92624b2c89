use Rattle.page_batch.proofs.slot.stage_after.Goals as goal

pub returns-in-Err : goal.returns-in-Err
returns-in-Err g c = record { stays = λ page is. tt; known = λ all. tt; awaits = tt }
