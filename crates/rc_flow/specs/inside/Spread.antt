-- The set of reactive names as it grows over the steps, and its sizes where scope blocks end.
use Rattle.std.specs.Prelude.{ℕ, Bool, true, List, [], ◌∷◌, Option, None, Some, Result, Ok, length, take, slice_get}
use Rattle.std.specs.Prelude.{if◌then◌else◌}
use Rattle.std.specs.List.{list_any}
use Rattle.std.specs.Map.{lookup}
use Rattle.indexmap.specs.IndexMap.{insert_entry}
use Rattle.indexmap.specs.IndexSet.{insert_key}
use Rattle.rc_hir.specs.Model.{DeclarationEntry, Environment, Fault, ReactiveScope, ReactiveScopeDependency}
use Rattle.rc_names.specs.Numbers.{IdentifierId, ScopeId, is_among, same_id}
use Rattle.rc_tree.specs.Model.{ReactiveBlock}
use Rattle.rc_tree.specs.Step.{bind}
use Rattle.rc_flow.specs.declared.spread.Spread.{Spread}
use Rattle.rc_flow.specs.declared.step.Step.{Step}
use Rattle.rc_flow.specs.declared.step.Step.TheVariants.{Marks, Carries, Ends}
use Rattle.rc_flow.specs.inside.Recording.{walked_steps}

-- a set of names
abbrev pub Names : Type 0
Names = List IdentifierId

-- no names yet, and no ends
abbrev pub nothing : Spread
nothing = record { names = []; ends = [] }

-- the set with more names
abbrev pub with_all : Names → Names → Names
with_all [] set = set
with_all (name ∷ names) set = with_all names (insert_key same_id set name)

-- the set with the names of declarations
abbrev pub with_declared : List DeclarationEntry → Names → Names
with_declared [] set = set
with_declared (entry ∷ entries) set = with_declared entries (insert_key same_id set entry.value.identifier)

-- the set with the outputs of a scope
abbrev pub with_outputs : ReactiveScope → Names → Names
with_outputs scope set = with_all scope.reassignments (with_declared scope.declarations set)

-- a dependency of the scope is in the set
abbrev pub depends_on : ReactiveScope → Names → Bool
depends_on scope set =
    list_any (λ (dependency : ReactiveScopeDependency). is_among set dependency.identifier) scope.dependencies

-- the state with another set
abbrev pub with_names : Spread → Names → Spread
with_names s names = record { names = names; ends = s.ends }

-- after a row
abbrev pub carried : Names → Names → Spread → Spread
carried from to s = if list_any (is_among s.names) from then with_names s (with_all to s.names) else s

-- the size is noted where a block of the scope first ends
abbrev pub noted_if : Option ℕ → ScopeId → Spread → Spread
noted_if (Some size) scope s = s
noted_if None scope s = record { names = s.names; ends = insert_entry same_id s.ends scope (length s.names) }

abbrev pub noted : ScopeId → Spread → Spread
noted scope s = noted_if (lookup (same_id scope) s.ends) scope s

-- after the end of a block of a scope that was looked up
abbrev pub ended : Option ReactiveScope → Spread → Spread
ended None s = s
ended (Some scope) s = if depends_on scope s.names then with_names s (with_outputs scope s.names) else s

abbrev pub after_end : Environment → ScopeId → Spread → Spread
after_end env scope s = ended (slice_get env.scopes scope.0) (noted scope s)

-- after one step, and after all
abbrev pub after_step : Environment → Step → Spread → Spread
after_step env (Marks name) s = with_names s (insert_key same_id s.names name)
after_step env (Carries from to) s = carried from to s
after_step env (Ends scope) s = after_end env scope s

abbrev pub after_steps : Environment → List Step → Spread → Spread
after_steps env [] s = s
after_steps env (step ∷ steps) s = after_steps env steps (after_step env step s)

-- the state after the collecting steps of a body
abbrev pub spread_over : ReactiveBlock → Environment → Result Spread Fault
spread_over body env = bind (walked_steps env body) (λ steps. Ok (after_steps env steps nothing))

-- the name is among the first `n` of the set; without a number, it holds of every name
abbrev pub is_early : Names → IdentifierId → Option ℕ → Bool
is_early set name None = true
is_early set name (Some size) = is_among (take size set) name

-- the dependency stays: it was reactive where a block of its scope first ended, if one did
abbrev pub stays : Spread → ScopeId → ReactiveScopeDependency → Bool
stays s scope dependency = is_early s.names dependency.identifier (lookup (same_id scope) s.ends)
