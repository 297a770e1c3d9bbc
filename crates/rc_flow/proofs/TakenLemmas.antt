-- A context that was taken puts no name into the set again.
use Rattle.std.proofs.Common.{◌≡◌, ◌∙◌, ◌+◌, ◌<◌, ℕ, drop, get_or, length}
use Rattle.std.proofs.Common.{Bool, true, false, List, [], ◌∷◌, ◌++◌, inl, inr}
use Rattle.std.proofs.Common.{flat_map, refl, sym, ap, subst, if◌then◌else◌, true≢false}
use Rattle.std.proofs.lemmas.Bool.{or_left, or_right}
use Rattle.std.proofs.lemmas.List.{drop_more}
use Rattle.indexmap.specs.IndexSet.{insert_key}
use Rattle.rc_hir.specs.Model.{Environment, Place}
use Rattle.rc_names.specs.Numbers.{FunctionId, IdentifierId, is_among, same_id}
use Rattle.rc_flow.specs.Collected.{place_steps}
use Rattle.rc_flow.specs.declared.spread.Spread.{Spread}
use Rattle.rc_flow.specs.declared.step.Step.{Step}
use Rattle.rc_flow.specs.declared.step.Step.TheVariants.{Marks}
use Rattle.rc_flow.specs.declared.told.Told.{Told}
use Rattle.rc_flow.specs.declared.told.Told.TheVariants as told
use Rattle.rc_flow.specs.inside.Spread.{after_step, after_steps, Names, with_all, with_names}
use Rattle.rc_flow.specs.inside.Told.{AreTaken, context_of, marked_names, steps_told, steps_told_at}
use Rattle.rc_flow.specs.inside.Told.{with_places}
use Rattle.rc_flow.proofs.SetLemmas.{In, all_new, all_old, in_itself, insert_cases}
use Rattle.rc_flow.proofs.SpreadLemmas.{steps-append}
use Rattle.rc_flow.proofs.SpreadSteps.{after_names, next_old}

-- names that are in the set already
pub all_there : (names set : Names) → ((n : IdentifierId) → In n names → In n set) → with_all names set ≡ set
all_there [] set within = refl
all_there (x ∷ xs) set within =
    let here : In x set = within x (or_left (same_id x x) (is_among xs x) (in_itself x)) in
    let same : insert_key same_id set x ≡ set = ap (λ b. if b then set else set ++ x ∷ []) here in
    ap (with_all xs) same ∙ all_there xs set (λ n h. within n (or_right (same_id n x) (is_among xs n) h))

-- the names of places, as one list
places_all : (places : List Place) (set : Names) → with_places places set ≡ with_all (marked_names places) set
places_all [] set = refl
places_all (place ∷ places) set = by place.reactive (places_all places)
  where
    by : (b : Bool) → ((names : Names) → with_places places names ≡ with_all (marked_names places) names)
        → with_places places (if b then insert_key same_id set place.identifier else set)
        ≡ with_all ((if b then place.identifier ∷ [] else []) ++ marked_names places) set
    by true rest = rest (insert_key same_id set place.identifier)
    by false rest = rest set

module _ (env : Environment) where
  -- the steps of places put in their marked names
  marking : (places : List Place) (s : Spread)
      → after_steps env (flat_map place_steps places) s ≡ with_names s (with_all (marked_names places) s.names)
  marking [] s = refl
  marking (place ∷ places) s = by place.reactive (marking places)
    where
      by : (b : Bool)
          → ((t : Spread) → after_steps env (flat_map place_steps places) t
          ≡ with_names t (with_all (marked_names places) t.names))
          → after_steps env ((if b then Marks place.identifier ∷ [] else []) ++ flat_map place_steps places) s
          ≡ with_names s (with_all ((if b then place.identifier ∷ [] else []) ++ marked_names places) s.names)
      by true rest = rest (after_step env (Marks place.identifier) s)
      by false rest = rest s

  -- a context's names are put in
  pub context_taken : (function : FunctionId) (s t : Spread)
      → t ≡ with_names s (with_places (context_of env.functions function) s.names)
      → t ≡ after_steps env (steps_told_at env.functions (told.Context function)) s
  context_taken function s t is =
      is ∙ ap (with_names s) (places_all (context_of env.functions function) s.names)
      ∙ sym (marking (context_of env.functions function) s)

  -- a context's names that are there already
  pub context_again : (taken : List FunctionId) (function : FunctionId) (s : Spread)
      → AreTaken env.functions taken s.names → is_among taken function ≡ true
      → s ≡ after_steps env (steps_told_at env.functions (told.Context function)) s
  context_again taken function s are here =
      let names = marked_names (context_of env.functions function) in
      ap (with_names s) (sym (all_there names s.names (are function here)))
      ∙ sym (marking (context_of env.functions function) s)

  -- what was taken stays so while the set grows
  pub taken_later : (taken : List FunctionId) (step : Step) (s t : Spread) → AreTaken env.functions taken s.names
      → t ≡ after_step env step s → AreTaken env.functions taken t.names
  taken_later taken step s t are is function here name h =
      subst (In name) (sym (ap (λ u. u.names) is ∙ after_names env step s))
      (next_old env step s.names name (are function here name h))

  pub taken_more : (taken more : List FunctionId) (function : FunctionId) (set grown : Names)
      → AreTaken env.functions taken set → more ≡ insert_key same_id taken function
      → grown ≡ with_places (context_of env.functions function) set → AreTaken env.functions more grown
  taken_more taken more function set grown are is whole other here name h =
      let names = marked_names (context_of env.functions function) in
      let met : is_among (insert_key same_id taken function) other ≡ true =
      subst (λ l. is_among l other ≡ true) is here in
      subst (In name) (sym (whole ∙ places_all (context_of env.functions function) set))
      (elim (insert_cases taken function other met) [
        | inl before ↦ all_old names set name (are other before name h)
        | inr same ↦ all_new names set name
            (subst (λ f. In name (marked_names (context_of env.functions f))) same h)
      ])

  -- what is told at one place more
  pub next_told : (list : List Told) (place : ℕ) (one : Told) (s t whole : Spread) → place < length list
      → one ≡ get_or list place one → t ≡ after_steps env (steps_told_at env.functions one) s
      → whole ≡ after_steps env (steps_told env.functions (drop place list)) s
      → whole ≡ after_steps env (steps_told env.functions (drop (place + 1) list)) t
  next_told list place one s t whole below at here so_far =
      let rest = steps_told env.functions (drop (place + 1) list) in
      let next : drop place list ≡ one ∷ drop (place + 1) list =
      drop_more list place one below ∙ ap (λ x. x ∷ drop (place + 1) list) (sym at)
      in
      so_far ∙ ap (λ l. after_steps env (steps_told env.functions l) s) next
      ∙ steps-append env (steps_told_at env.functions one) rest s ∙ ap (after_steps env rest) (sym here)

  -- no context is taken at first
  pub none_taken : (set : Names) → AreTaken env.functions [] set
  none_taken set function here name h = absurd (true≢false (sym here))

-- how a set grows over what was told
pub ruleset taking = (context_again, context_taken, none_taken, steps-append, taken_later, taken_more)
