-- Joining the results of steps: a first step that succeeds, and one that fails. Equal results have equal values.
use Rattle.std.proofs.Common.{◌≡◌, inl, inr, List, [], ◌∷◌, map, Result, Ok, Err, OnOk, refl, sym, ap, subst}
use Rattle.rc_hir.specs.Model.{Fault}
use Rattle.rc_tree.specs.Step.{IsStep, Walk, bind, each}

-- a step that succeeds, and the next one
pub gives_next : {A B S T : Type 0} (first : Result (A × S) Fault) (next : A × S → Result (B × T) Fault) (a : A) (s : S)
    (r : Result B Fault) (t : T)
    → first ≡ Ok (a, s) → IsStep (next (a, s)) r t → IsStep (bind first next) r t
gives_next first next a s r t e h = subst (λ f. IsStep (bind f next) r t) (sym e) h

-- a step that fails ends the walk
pub gives_fault : {A B S T : Type 0} (first : Result (A × S) Fault) (next : A × S → Result (B × T) Fault)
    (fault : Fault) (s : S) (t : T)
    → IsStep first (Err fault) s → IsStep (bind first next) (Err fault) t
gives_fault first next fault s t (inl e) = inl e
gives_fault first next fault s t (inr e) = inr (ap (λ f. bind f next) e)

-- two continuations that agree on every value
pub same_rest : {A B : Type 0} (r : Result A Fault) (f g : A → Result B Fault) → ((a : A) → f a ≡ g a)
    → bind r f ≡ bind r g
same_rest (Ok a) f g h = h a
same_rest (Err fault) f g h = refl

-- steps over the entries of a mapped list
pub each-map : {S X Y : Type 0} (step : Y → Walk S) (f : X → Y) (xs : List X) (s : S)
    → each step (map f xs) s ≡ each (λ x. step (f x)) xs s
each-map step f [] s = refl
each-map step f (x ∷ xs) s = same_rest (step (f x) s) _ _ (λ r. each-map step f xs r.1)

-- equal successes have equal values
pub Ok-injective : {A : Type 0} (a b : A) → ◌≡◌ {A = Result A Fault} (Ok a) (Ok b) → a ≡ b
Ok-injective a b e = cc

-- equal failures have equal faults
pub Err-injective : {A : Type 0} (a b : Fault) → ◌≡◌ {A = Result A Fault} (Err a) (Err b) → a ≡ b
Err-injective a b e = cc

-- a success is no failure
pub not_err : {A E : Type 0} (a : A) (e : E) → Ok a ≡ Err e → ⊥
not_err a e h = cc

-- a fact that is always true is true after a success
pub any_case : {A E P : Type 0} (r : Result A E) → P → OnOk r P
any_case (Ok a) p = p
any_case (Err e) p = tt
