-- The table of scopes with the dependencies that stay after all steps.
use Rattle.std.specs.Prelude.{ℕ, ◌+◌, List, [], ◌∷◌, Result, Ok}
use Rattle.std.specs.List.{filter}
use Rattle.rc_hir.specs.Model.{Environment, Fault, ReactiveScope}
use Rattle.rc_names.specs.Numbers.{ScopeId, to_id}
use Rattle.rc_tree.specs.Model.{ReactiveBlock}
use Rattle.rc_tree.specs.Step.{bind}
use Rattle.rc_flow.specs.Flows.{flows_in}
use Rattle.rc_flow.specs.declared.spread.Spread.{Spread}
use Rattle.rc_flow.specs.inside.Spread.{after_steps, spread_over, stays}

-- one scope
abbrev pub pruned : Spread → ScopeId → ReactiveScope → ReactiveScope
pruned s id scope = record scope { dependencies = filter (stays s id) scope.dependencies }

-- scopes whose numbers go on from that one
abbrev pub pruned_from : Spread → ℕ → List ReactiveScope → List ReactiveScope
pruned_from s number [] = []
pruned_from s number (scope ∷ scopes) = pruned s (to_id number) scope ∷ pruned_from s (number + 1) scopes

-- the whole table, after the collecting steps of a body and its flows
abbrev pub scopes_after : ReactiveBlock → Environment → Result (List ReactiveScope) Fault
scopes_after body env = bind (spread_over body env)
    (λ s. Ok (pruned_from (after_steps env (flows_in env body) s) 0 env.scopes))
