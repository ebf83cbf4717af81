use Rattle.law_lives.proofs.SameViews.{each_has_all, same_back}
use Rattle.law_lives.proofs.folder_laws.law_same_views_last.Goals as goal

pub returns-clause-last : goal.returns-clause-last
returns-clause-last c = λ a b v w h. each_has_all a b v w h

pub returns-clause-back : goal.returns-clause-back
returns-clause-back c = λ a b v w h. same_back a b v w h
