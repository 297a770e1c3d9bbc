-- The rules of the pass where each list is merged with one open group, and copies are pairs.
use Rattle.std.specs.Prelude.{Bool, true, false, List, [], ◌∷◌, Option, None, Some, Ok, map}
use Rattle.rc_hir.specs.Model.{Environment, ReactiveScope}
use Rattle.rc_names.specs.Numbers.{ScopeId}
use Rattle.rc_merge.specs.LastUses.{LastUses}
use Rattle.rc_merge.specs.Merged.{Progress, gives_way}
use Rattle.rc_merge.specs.declared.facts.MergedFacts.{MergedFacts}
use Rattle.rc_merge.specs.declared.tables.Log.{Log}
use Rattle.rc_merge.specs.inside.ListSteps.{Going, went, with_fate}
use Rattle.rc_merge.specs.inside.Rows.{CopyPairs, copies_of}
use Rattle.rc_tree.specs.Rebuilt.{Rules}
use Rattle.rc_tree.specs.Model.{ReactiveScopeBlock, ReactiveStatement}
use Rattle.rc_tree.specs.declared.fate.Fate.TheVariants.{DissolvedInto}
use Rattle.rc_tree.specs.declared.statement.ReactiveStatement.{out-ReactiveStatement}
use Rattle.rc_tree.specs.declared.statement.ReactiveStatement.TheVariants as reactive

-- how far the pass has come
pub record Met : Type 0 where
  pub around : Option ScopeId
  pub scopes : List ReactiveScope
  pub copies : CopyPairs
  pub log : Log

-- the state of the definition that it represents
abbrev pub progress_of : Met → Progress
progress_of met =
    record { around = met.around; scopes = met.scopes; copies = copies_of met.copies; log = met.log.fates }

-- the start, with what is told of scopes that merge
abbrev pub none_met : List ReactiveScope → Option (List MergedFacts) → Met
none_met scopes merged =
    record { around = None; scopes = scopes; copies = []; log = record { fates = []; merged = merged } }

-- after a list
abbrev pub met_after : Option ScopeId → Going → Met
met_after around g = record { around = around; scopes = g.scopes; copies = g.copies; log = g.log }

abbrev pub gone_if : Bool → ScopeId → ReactiveScopeBlock → Met → Met × List ReactiveStatement
gone_if true parent block met = (
  record met {
    around = Some parent;
    log = with_fate (record { scope = block.scope; fate = DissolvedInto parent }) met.log;
  },
  block.instructions.statements,
)
gone_if false parent block met = (record met { around = Some parent }, reactive.Scope block ∷ [])

module _ (env : Environment) (uses : LastUses) where
  abbrev pub left_scope : Option ScopeId → ReactiveScopeBlock → Met → Met × List ReactiveStatement
  left_scope None block met = (record met { around = None }, reactive.Scope block ∷ [])
  left_scope (Some parent) block met = gone_if (gives_way env uses met.scopes parent block.scope) parent block met

  abbrev pub went_list : List ReactiveStatement → Met → Going
  went_list statements met = went env uses (map out-ReactiveStatement statements) met.scopes met.copies met.log

  abbrev pub went_rules : Rules Met
  went_rules = record {
    row = λ row met. Ok (met, reactive.Instruction row ∷ []);
    terminal = λ statement met. Ok (met, reactive.Terminal statement ∷ []);
    pruned_scope = λ block met. Ok (met, reactive.PrunedScope block ∷ []);
    into_scope = λ scope met. record met { around = Some scope };
    scope = λ before block met. Ok (left_scope before.around block met);
    block = λ statements met.
        Ok (met_after met.around (went_list statements met), (went_list statements met).done);
  }
