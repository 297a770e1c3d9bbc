-- Merging of a tree: the merged body, its environment, and the decisions on scope blocks.
--
-- Lists are merged from the inside out. A scope block with the inputs of the nearest scope block around it is replaced
-- by its statements, after its own list was merged and before the list around it is.
use Rattle.std.specs.Prelude.{◌≡◌, Bool, true, false, List, [], ◌∷◌, ◌++◌, Contains, Option, None, Some, Ok, map}
use Rattle.rc_hir.specs.Model.{Environment, ReactiveScope}
use Rattle.rc_names.specs.Numbers.{ScopeId}
use Rattle.rc_merge.specs.Groups.{copies_at}
use Rattle.rc_merge.specs.Inputs.{Input, inputs_of, same_inputs}
use Rattle.rc_merge.specs.Joining.{Copies, no_copies}
use Rattle.rc_merge.specs.LastUses.{LastUses, last_uses_in}
use Rattle.rc_merge.specs.MergedList.{joined_at, merged_list, scopes_at}
use Rattle.rc_merge.specs.Places.{items_of, scope_at}
use Rattle.rc_tree.specs.Decided.{FateRule}
use Rattle.rc_tree.specs.Rebuilt.{Rules, rebuilt_block}
use Rattle.rc_tree.specs.declared.fate.Fate.TheVariants.{DissolvedInto}
use Rattle.rc_tree.specs.declared.fate.ScopeFate.{ScopeFate}
use Rattle.rc_tree.specs.Model.{ReactiveBlock, ReactiveScopeBlock, ReactiveStatement}
use Rattle.rc_tree.specs.declared.statement.ReactiveStatement.{out-ReactiveStatement}
use Rattle.rc_tree.specs.declared.statement.ReactiveStatement.TheVariants as reactive

-- the state of the pass: the nearest scope block around, the scopes, the known copies, and the decisions so far
pub record Progress : Type 0 where
  pub around : Option ScopeId
  pub scopes : List ReactiveScope
  pub copies : Copies
  pub log : List ScopeFate

-- the state at the start
abbrev pub nothing_met : List ReactiveScope → Progress
nothing_met scopes = record { around = None; scopes = scopes; copies = no_copies; log = [] }

module _ (env : Environment) (uses : LastUses) where
  abbrev pub inputs_at : List ReactiveScope → ScopeId → List Input
  inputs_at scopes number = inputs_of env (scope_at scopes number).own.dependencies

  -- the scope has the inputs of the one around it
  abbrev pub gives_way : List ReactiveScope → ScopeId → ScopeId → Bool
  gives_way scopes parent scope = same_inputs (inputs_at scopes parent) (inputs_at scopes scope)

  -- a scope block that is replaced by its statements, or stays
  abbrev pub dissolved_if : Bool → ScopeId → ReactiveScopeBlock → Progress → Progress × List ReactiveStatement
  dissolved_if true parent block met = (
    record met {
      around = Some parent;
      log = met.log ++ record { scope = block.scope; fate = DissolvedInto parent } ∷ [];
    },
    block.instructions.statements,
  )
  dissolved_if false parent block met = (record met { around = Some parent }, reactive.Scope block ∷ [])

  -- a scope block whose inside was merged, by the nearest scope block around it
  abbrev pub met_scope : Option ScopeId → ReactiveScopeBlock → Progress → Progress × List ReactiveStatement
  met_scope None block met = (record met { around = None }, reactive.Scope block ∷ [])
  met_scope (Some parent) block met = dissolved_if (gives_way met.scopes parent block.scope) parent block met

  -- a list, after the insides of its statements
  abbrev pub met_list : List ReactiveStatement → Progress → Progress × List ReactiveStatement
  met_list statements met = (
    record met {
      scopes = scopes_at env uses met.copies met.scopes (items_of env met.scopes (map out-ReactiveStatement statements));
      copies = copies_at env uses met.copies (items_of env met.scopes (map out-ReactiveStatement statements));
      log = met.log ++ joined_at env uses met.copies met.scopes (items_of env met.scopes (map out-ReactiveStatement statements));
    },
    merged_list env uses met.copies met.scopes (map out-ReactiveStatement statements),
  )

  -- the rule for each statement and for each list
  abbrev pub merging_rules : Rules Progress
  merging_rules = record {
    row = λ row met. Ok (met, reactive.Instruction row ∷ []);
    terminal = λ statement met. Ok (met, reactive.Terminal statement ∷ []);
    pruned_scope = λ block met. Ok (met, reactive.PrunedScope block ∷ []);
    into_scope = λ scope met. record met { around = Some scope };
    scope = λ before block met. Ok (met_scope before.around block met);
    block = λ statements met. Ok (met_list statements met);
  }

-- the second body and the scopes of the second environment are those of the first, merged; the rest of the environment
-- is unchanged, and the log has the decisions
pub record Merges (before : ReactiveBlock) (old : Environment) (after : ReactiveBlock) (new : Environment)
    (log : List ScopeFate) : Type 0 where
  -- the copies that are known at the end
  pub copies : Copies
  pub rebuilt : rebuilt_block (merging_rules old (last_uses_in old before)) before (nothing_met old.scopes)
      ≡ Ok (record { around = None; scopes = new.scopes; copies = copies; log = log }, after)
  pub environment : new ≡ record old { scopes = new.scopes }

-- the same with some log
pub record IsMerged (before : ReactiveBlock) (old : Environment) (after : ReactiveBlock) (new : Environment) :
    Type 0 where
  pub log : List ScopeFate
  pub merges : Merges before old after new log

-- the rule of the pass, judged on the body and the environment that it received: the fates that merging decides
abbrev pub merging_rule : Environment → ReactiveBlock → FateRule
merging_rule old before scope fate = (after : ReactiveBlock) × (new : Environment) × (log : List ScopeFate)
    × Merges before old after new log × Contains log (record { scope = scope; fate = fate })
