-- The two sets of names as they grow over the steps, the answers for the scope blocks that have ended, and what was
-- decided of their scopes, with the causes.
use Rattle.std.specs.Prelude.{Bool, true, false, List, [], ◌∷◌, ◌++◌, Option, None, Some, slice_get, if◌then◌else◌}
use Rattle.std.specs.List.{find}
use Rattle.indexmap.specs.IndexSet.{insert_key}
use Rattle.rc_hir.specs.Model.{DeclarationEntry, Environment, ReactiveScope}
use Rattle.rc_names.specs.Numbers.{IdentifierId, ScopeId, is_among, same_id}
use Rattle.rc_tree.specs.declared.fate.Fate.TheVariants.{AlwaysInvalidating}
use Rattle.rc_flow.specs.declared.always_invalidating.marks.Marks.{Marks}
use Rattle.rc_flow.specs.declared.value_step.ValueStep.{ValueStep}
use Rattle.rc_flow.specs.declared.value_step.ValueStep.TheVariants.{Makes, Copies, Ends}
use Rattle.rc_flow.specs.Reached.{dependency_names}
use Rattle.rc_flow.specs.inside.Spread.{Names}

-- no names and no blocks yet
abbrev pub no_marks : Marks
no_marks = record { always = []; unmemoized = []; dropped = []; decided = []; causes = [] }

-- the set with one more name
abbrev pub with_name : IdentifierId → Names → Names
with_name name set = insert_key same_id set name

-- the set where the second name has the value of the first
abbrev pub with_copy : IdentifierId → IdentifierId → Names → Names
with_copy from to set = if is_among set from then with_name to set else set

-- the set with a name that is among others
abbrev pub with_if_among : Names → IdentifierId → Names → Names
with_if_among others name set = if is_among others name then with_name name set else set

-- after a row that makes a value, and one that copies it
abbrev pub after_making : IdentifierId → Bool → Marks → Marks
after_making name in_scope s = record s {
  always = with_name name s.always;
  unmemoized = if in_scope then s.unmemoized else with_name name s.unmemoized;
}

abbrev pub after_copy : IdentifierId → IdentifierId → Marks → Marks
after_copy from to s = record s {
  always = with_copy from to s.always;
  unmemoized = with_copy from to s.unmemoized;
}

-- the set with the declared names, and with the reassigned ones, that are among others
abbrev pub with_declared : Names → List DeclarationEntry → Names → Names
with_declared others [] set = set
with_declared others (entry ∷ entries) set =
    with_declared others entries (with_if_among others entry.value.identifier set)

abbrev pub with_reassigned : Names → Names → Names → Names
with_reassigned others [] set = set
with_reassigned others (name ∷ names) set = with_reassigned others names (with_if_among others name set)

-- the outputs of a scope that are new each time are kept by no scope
abbrev pub with_unkept : ReactiveScope → Marks → Marks
with_unkept scope s = record s {
  unmemoized = with_reassigned s.always scope.reassignments (with_declared s.always scope.declarations s.unmemoized);
}

-- an answer more
abbrev pub with_answer : Bool → Marks → Marks
with_answer answer s = record s { dropped = s.dropped ++ answer ∷ [] }

-- a decision more
abbrev pub with_decision : ScopeId → Marks → Marks
with_decision scope s = record s { decided = s.decided ++ record { scope = scope; fate = AlwaysInvalidating } ∷ [] }

-- a cause more
abbrev pub with_cause : ScopeId → IdentifierId → Marks → Marks
with_cause scope dependency s =
    record s { causes = s.causes ++ record { scope = scope; dependency = dependency } ∷ [] }

-- the first dependency of the scope that is in the set
abbrev pub first_dependency : ReactiveScope → Names → Option IdentifierId
first_dependency scope set = find (is_among set) (dependency_names scope)

-- after the end of a block of a scope that was looked up
abbrev pub ended_by : Option IdentifierId → ScopeId → ReactiveScope → Marks → Marks
ended_by (Some dependency) scope known s =
    with_unkept known (with_cause scope dependency (with_decision scope (with_answer true s)))
ended_by None scope known s = with_answer false s

abbrev pub ended : ScopeId → Option ReactiveScope → Marks → Marks
ended scope None s = with_answer false s
ended scope (Some known) s = ended_by (first_dependency known s.unmemoized) scope known s

abbrev pub after_end : Environment → ScopeId → Marks → Marks
after_end env scope s = ended scope (slice_get env.scopes scope.0) s

-- after one step, and after all
abbrev pub after_step : Environment → ValueStep → Marks → Marks
after_step env (Makes name in_scope) s = after_making name in_scope s
after_step env (Copies from to) s = after_copy from to s
after_step env (Ends scope) s = after_end env scope s

abbrev pub after_steps : Environment → List ValueStep → Marks → Marks
after_steps env [] s = s
after_steps env (step ∷ steps) s = after_steps env steps (after_step env step s)

-- after a list of steps from the start
abbrev pub marks_of : Environment → List ValueStep → Marks
marks_of env steps = after_steps env steps no_marks
