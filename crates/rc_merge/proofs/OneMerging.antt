-- Merging has one result: the body, the environment and the decisions are determined by what the pass received.
use Rattle.std.proofs.Common.{◌≡◌, ◌∙◌, List, None, ap, sym}
use Rattle.rc_hir.specs.Model.{Environment}
use Rattle.rc_merge.specs.Merged.{Merges, Progress}
use Rattle.rc_tree.proofs.StepLemmas.{Ok-injective}
use Rattle.rc_tree.specs.Model.{ReactiveBlock}
use Rattle.rc_tree.specs.declared.fate.ScopeFate.{ScopeFate}

module _ (before : ReactiveBlock) (old : Environment) (after after1 : ReactiveBlock) (new new1 : Environment)
    (log log1 : List ScopeFate) (merges : Merges before old after new log) (merges1 : Merges before old after1 new1 log1)
  where
    abbrev end : Progress × ReactiveBlock
    end = (record { around = None; scopes = new.scopes; copies = merges.copies; log = log }, after)

    abbrev end1 : Progress × ReactiveBlock
    end1 = (record { around = None; scopes = new1.scopes; copies = merges1.copies; log = log1 }, after1)

    -- the results of the rules
    same_end : end ≡ end1
    same_end = Ok-injective end end1 (sym merges.rebuilt ∙ merges1.rebuilt)

    pub one_body : after ≡ after1
    one_body = ap (λ (c : Progress × ReactiveBlock). c.1) same_end

    pub one_log : log ≡ log1
    one_log = ap (λ (c : Progress × ReactiveBlock). c.0.log) same_end

    pub one_environment : new ≡ new1
    one_environment = merges.environment
        ∙ ap (λ (c : Progress × ReactiveBlock). record old { scopes = c.0.scopes }) same_end
        ∙ sym merges1.environment
