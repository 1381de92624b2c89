use Rattle.fragment_laws.proofs.Apart.{nodes-stay}
use Rattle.fragment_laws.proofs.Exchange.{others-stand}
use Rattle.fragment_laws.proofs.fragments_touch_their_target.Goals as goal

pub returns-clause-made : goal.returns-clause-made
returns-clause-made c = nodes-stay

pub returns-clause-filled : goal.returns-clause-filled
returns-clause-filled c = others-stand
