use Rattle.rule_laws.specs.Naming.{AreFresh, CameBefore}
use Rattle.rule_laws.proofs.FreshnessTexts.{fresh-follows, before-follows}
use Rattle.rule_laws.proofs.FreshnessDocs.{binds, new-serves, new-serves_alone, texts-served, ends-served}
use Rattle.rule_laws.proofs.documents_serve.Goals as goal

pub returns-clause-binds : goal.returns-clause-binds
returns-clause-binds c = binds

pub returns-clause-begins : goal.returns-clause-begins
returns-clause-begins c = new-serves

pub returns-clause-begins_alone : goal.returns-clause-begins_alone
returns-clause-begins_alone c = new-serves_alone

pub returns-clause-texts : goal.returns-clause-texts
returns-clause-texts c = texts-served AreFresh fresh-follows

pub returns-clause-texts_alone : goal.returns-clause-texts_alone
returns-clause-texts_alone c = texts-served CameBefore before-follows

pub returns-clause-ends : goal.returns-clause-ends
returns-clause-ends c = ends-served AreFresh fresh-follows

pub returns-clause-ends_alone : goal.returns-clause-ends_alone
returns-clause-ends_alone c = ends-served CameBefore before-follows
