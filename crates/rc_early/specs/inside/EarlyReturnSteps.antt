-- The steps of the pass on early returns, as a pass over statements.
use Rattle.std.specs.Prelude.{◌+◌, ◌-◌, Bool, List, [], ◌∷◌, ◌++◌, Option, None, Some, Result, Ok, Err, length, take}
use Rattle.std.specs.Prelude.{◌||◌, if◌then◌else◌, map, slice_get, unwrap_or}
use Rattle.std.specs.List.{last_or}
use Rattle.indexmap.specs.IndexSet.{insert_all, insert_key}
use Rattle.rc_early.specs.EarlyReturned.{Progress, entered, had_early_return, with_sentinel}
use Rattle.rc_early.specs.Entries.{has_room, next_entry}
use Rattle.rc_early.specs.Statements.{stored_return}
use Rattle.rc_early.specs.declared.early_return.EarlyReturn.{EarlyReturn}
use Rattle.rc_early.specs.declared.early_return.Where.{Where}
use Rattle.rc_early.specs.declared.early_return.Where.TheVariants.{Outside, Within}
use Rattle.rc_early.specs.declared.replacing.Replacing.{Replacing}
use Rattle.rc_hir.specs.Model.{Environment, Fault, Place, ReactiveScope, ReactiveScopeEarlyReturn}
use Rattle.rc_hir.specs.declared.fault.Fault.TheVariants.{BadName, NoIds}
use Rattle.rc_hir.specs.declared.fault.TableName.TheVariants.{Scopes}
use Rattle.rc_names.specs.Numbers.{ScopeId, is_among, same_id}
use Rattle.rc_tree.specs.StatementSteps.{StatementSteps}
use Rattle.rc_tree.specs.Step.{bind}
use Rattle.rc_tree.specs.Unrolled.{UnrolledTerminal}
use Rattle.rc_tree.specs.Model.{ReactiveScopeBlock, ReactiveStatement, Transformed}
use Rattle.rc_tree.specs.declared.hooks.Transformed.TheVariants.{Keep, ReplaceMany}
use Rattle.rc_tree.specs.declared.statement.ReactiveStatement.TheOpen as layer
use Rattle.rc_tree.specs.declared.terminal.ReactiveTerminal.{out-ReactiveTerminal}

-- the scopes of early returns, each once, after others
abbrev pub with_scopes : List ScopeId → List EarlyReturn → List ScopeId
with_scopes scopes made = insert_all same_id scopes (map (λ (early : EarlyReturn). early.scope) made)

-- the state of the walk that represents a state of the rules, by where each scope block around is
abbrev pub at : List Where → Progress → Replacing
at around s = record { at = s.at; met = s.met; made = s.made; scopes = with_scopes [] s.made; around = around }

-- the state at the beginning of a scope block, which is passed over or isn't
abbrev pub inside_scope : Bool → Replacing → Replacing
inside_scope passed_over s = record s { at = entered passed_over s.at; around = s.around ++ s.at ∷ [] }

-- the last place, or outside if the list is empty, which no walk meets
abbrev pub last_where : List Where → Where
last_where around = unwrap_or (last_or None around) Outside

-- the places before the last one
abbrev pub without_last : List Where → List Where
without_last around = take (length around - 1) around

-- the entry that belongs to a scope block there, and the one that stays for a block around it
abbrev pub entry_at : Where → Option ReactiveScopeEarlyReturn → Option ReactiveScopeEarlyReturn
entry_at Outside met = met
entry_at at met = None

abbrev pub left_at : Where → Option ReactiveScopeEarlyReturn → Option ReactiveScopeEarlyReturn
left_at Outside met = None
left_at at met = met

-- the entry for the scope block that ends, if a `Return` was met in it and it is an outermost one
abbrev pub ended_entry : Replacing → Option ReactiveScopeEarlyReturn
ended_entry s = entry_at (last_where s.around) s.met

-- the state after a scope block
abbrev pub outside_scope : Replacing → Replacing
outside_scope s = record s {
  at = last_where s.around;
  met = left_at (last_where s.around) s.met;
  around = without_last s.around;
}

-- an answer beside the part that the step was given
abbrev pub beside : {A X : Type 0} → X → Result (A × Replacing) Fault → Result (A × (Replacing × X)) Fault
beside x step = bind step (λ r. Ok (r.0, (r.1, x)))

-- the end of an outermost scope block, by the scope of its number
abbrev pub end_step : Option ReactiveScope → ReactiveScopeEarlyReturn → Replacing → ReactiveScopeBlock
    → Result (Unit {0} × (Replacing × ReactiveScopeBlock)) Fault
end_step None entry s block = Err (BadName Scopes block.scope.0)
end_step (Some scope) entry s block = Ok (
  tt,
  (
    record s {
      made = s.made ++ record { scope = block.scope; entry = entry } ∷ [];
      scopes = insert_key same_id s.scopes block.scope;
    },
    with_sentinel entry block,
  ),
)

module _ (env : Environment) where
  -- the scope has an early return already, where one was made for these scopes
  abbrev pub is_set_by : List ScopeId → ScopeId → Bool
  is_set_by made scope = had_early_return env scope || is_among made scope

  -- the statements in the place of a `Return` in a scope block
  abbrev pub return_step : Option ReactiveScopeEarlyReturn → Place → Replacing
      → Result (List ReactiveStatement × Replacing) Fault
  return_step (Some entry) place s = Ok (stored_return entry place, s)
  return_step None place s = if has_room env (length s.made + 1)
      then Ok (
        stored_return (next_entry env (length s.made) place.span) place,
        record s { met = Some (next_entry env (length s.made) place.span) },
      )
      else Err NoIds

  -- the answer for a terminal, by where it is
  abbrev pub terminal_step : Where → UnrolledTerminal → Replacing → Result (Transformed ReactiveStatement × Replacing)
      Fault
  terminal_step Within (layer.Return place id) s = bind (return_step s.met place s) (λ r. Ok (ReplaceMany r.0, r.1))
  terminal_step at terminal s = Ok (Keep, s)

  -- a scope block that ends with that entry, if there is one
  abbrev pub scope_step : Option ReactiveScopeEarlyReturn → Replacing → ReactiveScopeBlock
      → Result (Transformed ReactiveStatement × (Replacing × ReactiveScopeBlock)) Fault
  scope_step None s block = Ok (Keep, (s, block))
  scope_step (Some entry) s block =
      bind (end_step (slice_get env.scopes block.scope.0) entry s block) (λ r. Ok (Keep, r.1))

  abbrev pub early_return_steps : StatementSteps Replacing
  early_return_steps = record {
    enter_scope = λ block s. Ok (tt, inside_scope (is_set_by s.scopes block.scope) s);
    transform_terminal = λ s x. beside x (terminal_step s.at (out-ReactiveTerminal x.terminal) s);
    transform_scope = λ s block. scope_step (ended_entry s) (outside_scope s) block;
    leave_block = λ s block. Ok (tt, (s, block));
  }
