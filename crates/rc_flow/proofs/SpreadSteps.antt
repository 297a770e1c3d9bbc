-- The names that are reactive after one step.
use Rattle.std.proofs.Common.{◌≡◌, ◌∙◌, ℕ, Bool, true, false, List, [], ◌∷◌, ◌++◌, Option, None, Some, map}
use Rattle.std.proofs.Common.{slice_get, refl, sym, ap, if◌then◌else◌, true≢false}
use Rattle.std.specs.List.{list_any}
use Rattle.std.specs.Map.{lookup}
use Rattle.rc_hir.specs.Model.{DeclarationEntry, Environment, ReactiveScope}
use Rattle.rc_names.specs.Numbers.{IdentifierId, ScopeId, is_among, same_id}
use Rattle.rc_flow.specs.declared.spread.Spread.{Spread}
use Rattle.rc_flow.specs.declared.step.Step.{Step}
use Rattle.rc_flow.specs.declared.step.Step.TheVariants.{Marks, Carries, Ends}
use Rattle.rc_flow.specs.Reached.{dependencies_if, outputs_if, sources, targets}
use Rattle.rc_flow.specs.inside.Spread.{after_step, depends_on, ended, Names, noted, noted_if, with_all, with_declared, with_names}
use Rattle.rc_flow.specs.inside.Spread.{with_outputs}
use Rattle.rc_flow.proofs.SetLemmas.{In, carried_set, carried_grows, carried_new, carried_old, all-append}
use Rattle.rc_flow.proofs.SetLemmas.{depends_any, insert_grows, insert_old}

-- the ends of scope blocks as steps from names to names

declared_all : (all : List DeclarationEntry) (set : Names)
    → with_declared all set ≡ with_all (map (λ (e : DeclarationEntry). e.value.identifier) all) set
declared_all [] set = refl
declared_all (x ∷ xs) set = declared_all xs _

outputs_all : (scope : ReactiveScope) (set : Names)
    → with_outputs scope set ≡ with_all (outputs_if (Some scope)) set
outputs_all scope set = ap (with_all scope.reassignments) (declared_all scope.declarations set)
    ∙ sym (all-append (map (λ (e : DeclarationEntry). e.value.identifier) scope.declarations) scope.reassignments set)

names_of_if : (b : Bool) (s : Spread) (names : Names)
    → (if b then with_names s names else s).names ≡ (if b then names else s.names)
names_of_if true s names = refl
names_of_if false s names = refl

ends_of_if : (b : Bool) (s : Spread) (names : Names) → (if b then with_names s names else s).ends ≡ s.ends
ends_of_if true s names = refl
ends_of_if false s names = refl

ended_names : (o : Option ReactiveScope) (s : Spread)
    → (ended o s).names ≡ carried_set (dependencies_if o) (outputs_if o) s.names
ended_names None s = refl
ended_names (Some scope) s =
    names_of_if (depends_on scope s.names) s (with_outputs scope s.names)
    ∙ ap (λ b. if b then with_outputs scope s.names else s.names) (depends_any scope s.names)
    ∙ ap (λ names. if list_any (is_among s.names) (dependencies_if (Some scope)) then names else s.names)
    (outputs_all scope s.names)

pub ended_ends : (o : Option ReactiveScope) (s : Spread) → (ended o s).ends ≡ s.ends
ended_ends None s = refl
ended_ends (Some scope) s = ends_of_if (depends_on scope s.names) s (with_outputs scope s.names)

noted_names : (o : Option ℕ) (scope : ScopeId) (s : Spread) → (noted_if o scope s).names ≡ s.names
noted_names None scope s = refl
noted_names (Some size) scope s = refl

module _ (env : Environment) where
  -- the set after a step
  abbrev pub next_names : Step → Names → Names
  next_names (Marks name) set = with_all (name ∷ []) set
  next_names (Carries from to) set = carried_set from to set
  next_names (Ends scope) set = carried_set (sources env (Ends scope)) (targets env (Ends scope)) set

  pub after_names : (step : Step) (s : Spread) → (after_step env step s).names ≡ next_names step s.names
  after_names (Marks name) s = refl
  after_names (Carries from to) s = names_of_if (list_any (is_among s.names) from) s (with_all to s.names)
  after_names (Ends scope) s =
      ended_names (slice_get env.scopes scope.0) (noted scope s)
      ∙ ap (carried_set (sources env (Ends scope)) (targets env (Ends scope)))
      (noted_names (lookup (same_id scope) s.ends) scope s)

  pub next_grows : (step : Step) (set : Names) → (more : Names) × (next_names step set ≡ set ++ more)
  next_grows (Marks name) set = insert_grows set name
  next_grows (Carries from to) set = carried_grows from to set
  next_grows (Ends scope) set = carried_grows (sources env (Ends scope)) (targets env (Ends scope)) set

  pub next_old : (step : Step) (set : Names) (n : IdentifierId) → In n set → In n (next_names step set)
  next_old (Marks name) set n h = insert_old set name n h
  next_old (Carries from to) set n h = carried_old from to set n h
  next_old (Ends scope) set n h = carried_old (sources env (Ends scope)) (targets env (Ends scope)) set n h

  pub next_new : (step : Step) (set : Names) (n a : IdentifierId) → In a (sources env step) → In a set
      → In n (targets env step) → In n (next_names step set)
  next_new (Marks name) set n a f s t = absurd (true≢false (sym f))
  next_new (Carries from to) set n a f s t = carried_new from to set n a f s t
  next_new (Ends scope) set n a f s t =
      carried_new (sources env (Ends scope)) (targets env (Ends scope)) set n a f s t
