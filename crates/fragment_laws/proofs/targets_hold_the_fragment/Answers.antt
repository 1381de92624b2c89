use Rattle.fragment_laws.proofs.Pairs.{made-as-alone}
use Rattle.fragment_laws.proofs.Children.{target-holds}
use Rattle.fragment_laws.proofs.targets_hold_the_fragment.Goals as goal

pub returns-clause-made : goal.returns-clause-made
returns-clause-made c = made-as-alone

pub returns-clause-filled : goal.returns-clause-filled
returns-clause-filled c = target-holds
