-- A tree in which each `Return` in a scope block is a store and a jump out of the outermost scope block around it, and
-- the environment of that tree.
--
-- A scope block whose scope has an early return already is passed over with all that it holds.
use Rattle.std.specs.Prelude.{◌≡◌, ◌+◌, Bool, true, false, List, [], ◌∷◌, ◌++◌, Option, None, Some, Ok, Err}
use Rattle.std.specs.Prelude.{◌||◌, if◌then◌else◌, length, slice_get}
use Rattle.std.specs.List.{list_any}
use Rattle.std.specs.Option.{option_map_or}
use Rattle.rc_early.specs.Entries.{has_room, next_entry, with_early_returns}
use Rattle.rc_early.specs.Statements.{after_sentinel, stored_return}
use Rattle.rc_early.specs.declared.early_return.EarlyReturn.{EarlyReturn}
use Rattle.rc_early.specs.declared.early_return.Where.{Where}
use Rattle.rc_early.specs.declared.early_return.Where.TheVariants.{Outside, Within, PassedOver}
use Rattle.rc_hir.specs.Model.{Environment, Fault, Place, ReactiveScope, ReactiveScopeEarlyReturn}
use Rattle.rc_hir.specs.declared.fault.Fault.TheVariants.{BadName, NoIds}
use Rattle.rc_hir.specs.declared.fault.TableName.TheVariants.{Scopes}
use Rattle.rc_names.specs.Numbers.{ScopeId, same_id}
use Rattle.rc_runs.specs.EarlyReturns.{returns_early}
use Rattle.rc_tree.specs.Rebuilt.{Rebuilds, Rules, keeps_statements, rebuilt_block}
use Rattle.rc_tree.specs.Unrolled.{UnrolledTerminal}
use Rattle.rc_tree.specs.Model.{ReactiveBlock, ReactiveScopeBlock, ReactiveStatement, ReactiveTerminalStatement}
use Rattle.rc_tree.specs.declared.statement.ReactiveStatement.TheOpen as layer
use Rattle.rc_tree.specs.declared.statement.ReactiveStatement.TheVariants as reactive
use Rattle.rc_tree.specs.declared.terminal.ReactiveTerminal.{out-ReactiveTerminal}

-- how far the pass has come
pub record Progress : Type 0 where
  -- where the next statement is
  pub at : Where
  -- the entry for the outermost scope block around, if a `Return` was met in it
  pub met : Option ReactiveScopeEarlyReturn
  -- the early returns of the outermost scope blocks that have ended
  pub made : List EarlyReturn

-- at the start of a body
abbrev pub nothing_met : Progress
nothing_met = record { at = Outside; met = None; made = [] }

-- at the start of the inside of a scope block, which is passed over or isn't
abbrev pub entered : Bool → Where → Where
entered true at = PassedOver
entered false PassedOver = PassedOver
entered false at = Within

-- a scope block with the sentinel's statements
abbrev pub with_sentinel : ReactiveScopeEarlyReturn → ReactiveScopeBlock → ReactiveScopeBlock
with_sentinel entry block =
    record block { instructions = record { statements = after_sentinel entry block.instructions } }

-- the end of an outermost scope block in which a `Return` was met, by the scope of its number
abbrev pub ended : Option ReactiveScope → ReactiveScopeEarlyReturn → ReactiveScopeBlock
    → Rebuilds Progress (List ReactiveStatement)
ended None entry block s = Err (BadName Scopes block.scope.0)
ended (Some scope) entry block s = Ok (
  record { at = Outside; met = None; made = s.made ++ record { scope = block.scope; entry = entry } ∷ [] },
  reactive.Scope (with_sentinel entry block) ∷ [],
)

-- an early return was made for the scope
abbrev pub is_made : List EarlyReturn → ScopeId → Bool
is_made made scope = list_any (λ (early : EarlyReturn). same_id early.scope scope) made

module _ (env : Environment) where
  -- the scope had an early return before the pass
  abbrev pub had_early_return : ScopeId → Bool
  had_early_return scope = option_map_or returns_early (slice_get env.scopes scope.0) false

  -- the scope has an early return already
  abbrev pub is_set : List EarlyReturn → ScopeId → Bool
  is_set made scope = had_early_return scope || is_made made scope

  -- a `Return` of a place in a scope block; the first one makes the entry
  abbrev pub return_within : Option ReactiveScopeEarlyReturn → Place → Rebuilds Progress (List ReactiveStatement)
  return_within (Some entry) place s = Ok (s, stored_return entry place)
  return_within None place s = if has_room env (length s.made + 1)
      then Ok (
        record s { met = Some (next_entry env (length s.made) place.span) },
        stored_return (next_entry env (length s.made) place.span) place,
      )
      else Err NoIds

  -- a terminal, by where it is
  abbrev pub terminal_at : Where → UnrolledTerminal → ReactiveTerminalStatement
      → Rebuilds Progress (List ReactiveStatement)
  terminal_at Within (layer.Return place id) statement s = return_within s.met place s
  terminal_at at terminal statement s = Ok (s, reactive.Terminal statement ∷ [])

  -- a scope block, by where it is and by the entry that was made in it, or around it before its end
  abbrev pub scope_at : Where → Option ReactiveScopeEarlyReturn → ReactiveScopeBlock
      → Rebuilds Progress (List ReactiveStatement)
  scope_at Outside (Some entry) block s = ended (slice_get env.scopes block.scope.0) entry block s
  scope_at at met block s = Ok (record s { at = at }, reactive.Scope block ∷ [])

  -- the rule for each statement
  abbrev pub early_return_rules : Rules Progress
  early_return_rules = record {
    row = λ row s. Ok (s, reactive.Instruction row ∷ []);
    terminal = λ statement s. terminal_at s.at (out-ReactiveTerminal statement.terminal) statement s;
    pruned_scope = λ block s. Ok (s, reactive.PrunedScope block ∷ []);
    into_scope = λ scope s. record s { at = entered (is_set s.made scope) s.at };
    scope = λ before block s. scope_at before.at s.met block s;
    block = keeps_statements;
  }

  -- a body with its early returns, or the fault at which that ends
  abbrev pub early_returned : ReactiveBlock → Rebuilds Progress ReactiveBlock
  early_returned = rebuilt_block early_return_rules

-- the second body is the first one with these early returns, in the order in which their scope blocks end
pub record MakesEarlyReturns (env : Environment) (before after : ReactiveBlock) (made : List EarlyReturn) : Type 0 where
  pub at : Where
  pub met : Option ReactiveScopeEarlyReturn
  pub rebuilt : early_returned env before nothing_met ≡ Ok (record { at = at; met = met; made = made }, after)

-- the second body is the first one with its early returns, and the second environment has their entries too
pub record HasEarlyReturns (before : ReactiveBlock) (old : Environment) (after : ReactiveBlock) (new : Environment) :
    Type 0 where
  pub made : List EarlyReturn
  pub makes : MakesEarlyReturns old before after made
  pub entries : new ≡ with_early_returns made old

-- making the early returns of a body ends at that fault
abbrev pub EndsAtFault : Environment → ReactiveBlock → Fault → Type 0
EndsAtFault env before fault = early_returned env before nothing_met ≡ Err fault
