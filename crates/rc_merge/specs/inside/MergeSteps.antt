-- What each hook of the pass does.
use Rattle.std.specs.Prelude.{◌≡◌, ◌++◌, ◌-◌, Bool, true, false, List, [], ◌∷◌, Option, None, Some, Result, Ok, length, map, take}
use Rattle.std.specs.List.{last_or}
use Rattle.std.specs.Option.{option_map_or}
use Rattle.rc_hir.specs.Model.{Environment, Fault, ReactiveScope}
use Rattle.rc_names.specs.Numbers.{ScopeId}
use Rattle.rc_tree.specs.Rebuilt.{rebuilt_block}
use Rattle.rc_tree.specs.Pruned.{emptied_scope}
use Rattle.rc_tree.specs.StatementSteps.{StatementSteps}
use Rattle.rc_tree.specs.Model.{ReactiveBlock, ReactiveFunction, ReactiveScopeBlock, ReactiveStatement, Transformed}
use Rattle.rc_tree.specs.declared.fate.Fate.TheVariants.{DissolvedInto}
use Rattle.rc_tree.specs.declared.hooks.Transformed.TheVariants.{Keep, ReplaceMany}
use Rattle.rc_tree.specs.declared.statement.ReactiveStatement.{out-ReactiveStatement}
use Rattle.rc_merge.specs.LastUses.{LastUses, last_uses_in}
use Rattle.rc_merge.specs.Merged.{gives_way}
use Rattle.rc_merge.specs.declared.facts.MergedFacts.{MergedFacts}
use Rattle.rc_merge.specs.declared.merge.Merging.{Merging}
use Rattle.rc_merge.specs.declared.tables.Tables.{Tables}
use Rattle.rc_merge.specs.inside.ListSteps.{Going, went, with_fate}
use Rattle.rc_merge.specs.inside.WentRules.{Met, none_met, went_rules}

-- the walk's state at a state of the pass, with the scope blocks around that are set aside
abbrev pub at : List (Option ScopeId) → Met → Merging
at outside met = record {
  around = met.around;
  outside = outside;
  tables = record { scopes = met.scopes; copies = met.copies; log = met.log };
}

-- inside a scope block the nearest one around it is set aside
abbrev pub outside_inside : List (Option ScopeId) → Met → List (Option ScopeId)
outside_inside outside met = outside ++ met.around ∷ []

abbrev pub inside_scope : ScopeId → Merging → Merging
inside_scope scope merging =
    record merging { around = Some scope; outside = merging.outside ++ merging.around ∷ [] }

-- the last entry, and the others
abbrev pub last_around : List (Option ScopeId) → Option ScopeId
last_around outside = option_map_or (λ around. around) (last_or None outside) None

abbrev pub without_last : List (Option ScopeId) → List (Option ScopeId)
without_last outside = take (length outside - 1) outside

-- after a scope block those around it count again
abbrev pub outside_scope : Merging → Merging
outside_scope merging =
    record merging { around = last_around merging.outside; outside = without_last merging.outside }

abbrev pub with_dissolved : ScopeId → ScopeId → Merging → Merging
with_dissolved scope parent merging = record merging {
  tables = record merging.tables {
    log = with_fate (record { scope = scope; fate = DissolvedInto parent }) merging.tables.log;
  };
}

-- the tables after a list
abbrev pub tables_of : Going → Tables
tables_of going = record { scopes = going.scopes; copies = going.copies; log = going.log }

abbrev pub dissolved_if : Bool → ScopeId → Merging → ReactiveScopeBlock
    → Result (Transformed ReactiveStatement × (Merging × ReactiveScopeBlock)) Fault
dissolved_if true parent merging block =
    Ok (ReplaceMany block.instructions.statements, (with_dissolved block.scope parent merging, emptied_scope block))
dissolved_if false parent merging block = Ok (Keep, (merging, block))

module _ (env : Environment) (uses : LastUses) where
  -- a scope block ends whose nearest one around it is this one
  abbrev pub scope_answer : Option ScopeId → Merging → ReactiveScopeBlock
      → Result (Transformed ReactiveStatement × (Merging × ReactiveScopeBlock)) Fault
  scope_answer None merging block = Ok (Keep, (merging, block))
  scope_answer (Some parent) merging block =
      dissolved_if (gives_way env uses merging.tables.scopes parent block.scope) parent merging block

  abbrev pub list_merged : Merging → ReactiveBlock → Going
  list_merged merging block = went env uses (map out-ReactiveStatement block.statements) merging.tables.scopes
      merging.tables.copies merging.tables.log

  abbrev pub merge_steps : StatementSteps Merging
  merge_steps = record {
    enter_scope = λ block merging. Ok (tt, inside_scope block.scope merging);
    transform_terminal = λ merging statement. Ok (Keep, (merging, statement));
    transform_scope = λ merging block. scope_answer (last_around merging.outside) (outside_scope merging) block;
    leave_block = λ merging block. Ok (
      tt,
      (
        record merging { tables = tables_of (list_merged merging block) },
        record { statements = (list_merged merging block).done },
      ),
    );
  }

  -- the body was rebuilt by the rules from these scopes, and these are the tables at the end
  pub record AreRebuilt (merged : Option (List MergedFacts)) (before : ReactiveBlock) (scopes : List ReactiveScope)
      (after : ReactiveBlock) (tables : Tables) : Type 0 where
    pub around : Option ScopeId
    pub rebuilt : rebuilt_block (went_rules env uses) before (none_met scopes merged) ≡ Ok (
      record { around = around; scopes = tables.scopes; copies = tables.copies; log = tables.log },
      after,
    )

-- a function was rebuilt by the rules, with the last uses in its body, from the scopes of the environment
pub record HasMerged (merged : Option (List MergedFacts)) (old new : ReactiveFunction) (env : Environment)
    (tables : Tables) : Type 0 where
  pub header : new ≡ record old { body = new.body }
  pub are : AreRebuilt env (last_uses_in env old.body) merged old.body env.scopes new.body tables
