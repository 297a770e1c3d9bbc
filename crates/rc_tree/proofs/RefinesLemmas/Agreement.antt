-- A computation of the rewriting walk agrees with the result that the rules of a pass expect, and so do larger ones
-- that are made of such computations.
use Rattle.std.proofs.Common.{◌≡◌, ◌⊎◌, ◌∙◌, inl, inr, List, [], ◌∷◌, ◌++◌, append_assoc, append-nil, Option, None}
use Rattle.std.proofs.Common.{Some, map, Result, Ok, Err, OnOk, IfErr, refl, sym, ap, subst}
use Rattle.rc_hir.specs.Model.{Fault}
use Rattle.rc_hir.specs.declared.fault.Fault.TheVariants.{NoMemory}
use Rattle.rc_tree.proofs.RebuiltLemmas.{if_some}
use Rattle.rc_tree.proofs.StepLemmas.{Err-injective, Ok-injective}
use Rattle.rc_tree.specs.inside.Refines.{StepAgrees}
use Rattle.rc_tree.specs.Step.{IsStep}
use Rattle.rc_tree.specs.Step as outcome
use Rattle.rc_tree.specs.Rebuilt.{Rebuilds, in_order, joined}
use Rattle.rc_tree.specs.Fuel.{Fueled, OutOfFuel, Failed, Done, bind, after, as_step, FueledWalk, FueledInto}
use Rattle.rc_tree.specs.inside.EnoughFuel.{HasFuel}
use Rattle.rc_tree.specs.Fuel.{in_turn, kept_into, perhaps_part}
use Rattle.rc_tree.specs.Rewrite.{in_place}
use Rattle.rc_tree.specs.Model.{ReactiveStatement, Transformed}

module _ {S R T St : Type 0} (world : R → S → T × St) where
  -- a computation gives the expected result, in the world of the expected state, unless it runs out of fuel
  unfoldable pub Agrees : {X : Type 0} → R → Fueled (Unit {0} × ((T × St) × X)) → Result (S × X) Fault → Type 0
  Agrees r OutOfFuel e = Unit {0}
  Agrees r (Failed fault) e = e ≡ Err fault
  Agrees r (Done d) e = (s : S) × (e ≡ Ok (s, d.1.1)) × (d.1.0 ≡ world r s)

  -- the same for a statement, by its replacement
  unfoldable pub Places : R → Fueled (Transformed ReactiveStatement × ((T × St) × ReactiveStatement))
      → Result (S × List ReactiveStatement) Fault → Type 0
  Places r OutOfFuel e = Unit {0}
  Places r (Failed fault) e = e ≡ Err fault
  Places r (Done d) e = (s : S) × (e ≡ Ok (s, in_place d.0 d.1.1)) × (d.1.0 ≡ world r s)

  pub agreed : {X : Type 0} (r : R) (s : S) (x : X) → Agrees r (Done (tt, (world r s, x))) (Ok (s, x))
  unfolding Agrees
  agreed r s x = (s, refl, refl)

  -- a part, and the part after it
  pub part : {X Y : Type 0} (r q : R) (first : Fueled (Unit {0} × ((T × St) × X)))
      (next : Unit {0} × ((T × St) × X) → Fueled (Unit {0} × ((T × St) × Y)))
      (e : Result (S × X) Fault) (k : S × X → Result (S × Y) Fault)
      → Agrees q first e → ((s : S) (x : X) → Agrees r (next (tt, (world q s, x))) (k (s, x)))
      → Agrees r (bind first next) (outcome.bind e k)
  unfolding Agrees
  part r q OutOfFuel next e k h j = tt
  part r q (Failed fault) next e k h j = ap (λ e. outcome.bind e k) h
  part r q (Done d) next e k h j =
      subst (λ e. Agrees r (next d) (outcome.bind e k)) (sym h.1)
      (subst (λ w. Agrees r (next (tt, (w, d.1.1))) (k (h.0, d.1.1))) (sym h.2) (j h.0 d.1.1))

  -- a part, and the whole that is made of it
  pub made : {X Y : Type 0} (r : R) (first : Fueled (Unit {0} × ((T × St) × X))) (e : Result (S × X) Fault)
      (make : X → Y)
      → Agrees r first e → Agrees r (bind first (λ a. Done (tt, (a.1.0, make a.1.1))))
      (outcome.bind e (λ a. Ok (a.0, make a.1)))
  made r first e make h =
      part r r first (λ a. Done (tt, (a.1.0, make a.1.1))) e (λ a. Ok (a.0, make a.1)) h (λ s x. agreed r s (make x))

  -- a part that isn't changed
  pub as_left : {X : Type 0} (r : R) (first : Fueled (Unit {0} × ((T × St) × X))) (e : Result (S × X) Fault)
      → Agrees r first e → Agrees r (bind first (λ d. Done (tt, (d.1.0, d.1.1)))) e
  unfolding Agrees
  as_left r OutOfFuel e h = tt
  as_left r (Failed fault) e h = h
  as_left r (Done d) e h = h

  pub part_if : {X : Type 0} (walk : FueledWalk (T × St) X) (rebuilt : X → Rebuilds S X)
      → ((r : R) (s : S) (x : X) → Agrees r (walk (world r s) x) (rebuilt x s))
      → (r : R) (s : S) (x : Option X) → Agrees r (perhaps_part walk (world r s) x) (if_some rebuilt x s)
  part_if walk rebuilt known r s None = agreed r s None
  part_if walk rebuilt known r s (Some x) = made r (walk (world r s) x) (rebuilt x s) (λ y. Some y) (known r s x)

  -- a part, and the last step of its statement
  pub part_placed : {X : Type 0} (r q : R) (first : Fueled (Unit {0} × ((T × St) × X)))
      (next : Unit {0} × ((T × St) × X) → Fueled (Transformed ReactiveStatement × ((T × St) × ReactiveStatement)))
      (e : Result (S × X) Fault) (k : S × X → Result (S × List ReactiveStatement) Fault)
      → Agrees q first e → ((s : S) (x : X) → Places r (next (tt, (world q s, x))) (k (s, x)))
      → Places r (bind first next) (outcome.bind e k)
  unfolding Agrees Places
  part_placed r q OutOfFuel next e k h j = tt
  part_placed r q (Failed fault) next e k h j = ap (λ e. outcome.bind e k) h
  part_placed r q (Done d) next e k h j =
      subst (λ e. Places r (next d) (outcome.bind e k)) (sym h.1)
      (subst (λ w. Places r (next (tt, (w, d.1.1))) (k (h.0, d.1.1))) (sym h.2) (j h.0 d.1.1))

  -- a last step that agrees with the rule
  pub placed : {X : Type 0} (r : R) (make : X → ReactiveStatement) (rule : Result (S × List ReactiveStatement) Fault)
      (step : Result (Transformed ReactiveStatement × ((T × St) × X)) Fault)
      → StepAgrees (world r) make rule step → Places r (after step (λ b. Done (b.0, (b.1.0, make b.1.1)))) rule
  unfolding Places
  placed r make (Ok rule) (Ok step) h = (rule.0, ap (λ ys. Ok (rule.0, ys)) (sym h.1), h.0)
  placed r make (Err fault) (Err given) h = ap Err (sym h)
  placed r make (Ok rule) (Err given) h = absurd h
  placed r make (Err fault) (Ok step) h = absurd h

  -- the replacement of a statement, appended to the statements that are done
  pub put : (r : R) (before : List ReactiveStatement) (run : Fueled
      (Transformed ReactiveStatement × ((T × St) × ReactiveStatement))) (e : Result (S × List ReactiveStatement) Fault)
      → Places r run e → Agrees r (bind run (λ a. Done (tt, (a.1.0, before ++ in_place a.0 a.1.1))))
      (outcome.bind e (λ a. Ok (a.0, before ++ a.1)))
  unfolding Agrees Places
  put r before OutOfFuel e h = tt
  put r before (Failed fault) e h = ap (λ e. outcome.bind e (λ a. Ok (a.0, before ++ a.1))) h
  put r before (Done d) e h = (h.0, ap (λ e. outcome.bind e (λ a. Ok (a.0, before ++ a.1))) h.1, h.2)

  -- a list, with these entries in front
  abbrev pub ahead : {X : Type 0} → List X → Result (S × List X) Fault → Result (S × List X) Fault
  ahead before e = outcome.bind e (λ a. Ok (a.0, before ++ a.1))

  pub ahead_none : {X : Type 0} (e : Result (S × List X) Fault) → ahead [] e ≡ e
  ahead_none (Ok a) = refl
  ahead_none (Err fault) = refl

  ahead_step : {X : Type 0} (before : List X) (e : Result (S × List X) Fault) (rest : Rebuilds S (List X))
      → outcome.bind (ahead before e) (λ a. ahead a.1 (rest a.0))
      ≡ ahead before (outcome.bind e (λ a. outcome.bind (rest a.0) (λ b. Ok (b.0, a.1 ++ b.1))))
  ahead_step before (Err fault) rest = refl
  ahead_step {X} before (Ok a) rest = by (rest a.0)
    where
      by : (q : Result (S × List X) Fault) → ahead (before ++ a.1) q
          ≡ ahead before (outcome.bind q (λ b. Ok (b.0, a.1 ++ b.1)))
      by (Err fault) = refl
      by (Ok b) = ap (λ l. Ok (b.0, l)) (append_assoc before a.1 b.1)

  pub turn_agrees : {X : Type 0} (r : R) (rebuilt : X → Rebuilds S (List X)) (into : FueledInto (T × St) X)
      → ((s : S) (before : List X) (x : X) → Agrees r (into (world r s) before x) (ahead before (rebuilt x s)))
      → (s : S) (before xs : List X) → Agrees r (in_turn into (world r s) before xs)
      (ahead before (joined (map rebuilt xs) s))
  turn_agrees r rebuilt into one s before [] =
      subst (λ l. Agrees r (Done (tt, (world r s, before))) (Ok (s, l))) (sym (append-nil before)) (agreed r s before)
  turn_agrees r rebuilt into one s before (x ∷ xs) =
      subst (λ e. Agrees r (in_turn into (world r s) before (x ∷ xs)) e)
      (ahead_step before (rebuilt x s) (joined (map rebuilt xs)))
      (part r r (into (world r s) before x) (λ a. in_turn into a.1.0 a.1.1 xs) (ahead before (rebuilt x s))
      (λ a. ahead a.1 (joined (map rebuilt xs) a.0)) (one s before x)
      (λ s1 before1. turn_agrees r rebuilt into one s1 before1 xs))

  abbrev single : {X : Type 0} → (X → Rebuilds S X) → X → Rebuilds S (List X)
  single rebuilt x s = outcome.bind (rebuilt x s) (λ a. Ok (a.0, a.1 ∷ []))

  singles : {X : Type 0} (rebuilt : X → Rebuilds S X) (xs : List X) (s : S)
      → joined (map (single rebuilt) xs) s ≡ in_order (map rebuilt xs) s
  singles rebuilt [] s = refl
  singles {X} rebuilt (x ∷ xs) s = by (singles rebuilt xs) (rebuilt x s)
    where
      by : ((s1 : S) → joined (map (single rebuilt) xs) s1 ≡ in_order (map rebuilt xs) s1) → (e : Result (S × X) Fault)
          → outcome.bind {A = S × List X} {B = S × List X} (outcome.bind e (λ a. Ok (a.0, a.1 ∷ [])))
          (λ a. outcome.bind (joined (map (single rebuilt) xs) a.0) (λ b. Ok (b.0, a.1 ++ b.1)))
          ≡ outcome.bind e (λ a. outcome.bind (in_order (map rebuilt xs) a.0) (λ b. Ok (b.0, a.1 ∷ b.1)))
      by ih (Err fault) = refl
      by ih (Ok a) = ap (λ q. outcome.bind q (λ b. Ok (b.0, a.1 ∷ b.1))) (ih a.0)

  pub each_agrees : {X : Type 0} (r : R) (rebuilt : X → Rebuilds S X) (walk : FueledWalk (T × St) X)
      → ((s : S) (x : X) → Agrees r (walk (world r s) x) (rebuilt x s))
      → (s : S) (xs : List X) → Agrees r (in_turn (kept_into walk) (world r s) [] xs) (in_order (map rebuilt xs) s)
  each_agrees {X} r rebuilt walk known s xs =
      subst (λ e. Agrees r (in_turn (kept_into walk) (world r s) [] xs) e)
      (ahead_none (joined (map (single rebuilt) xs) s) ∙ singles rebuilt xs s)
      (turn_agrees r (single rebuilt) (kept_into walk)
      (λ s before x. subst (λ e. Agrees r (kept_into walk (world r s) before x) e) (by before (rebuilt x s))
      (made r (walk (world r s) x) (rebuilt x s) (λ y. before ++ y ∷ []) (known s x)))
      s [] xs)
    where
      by : (before : List X) (e : Result (S × X) Fault) → outcome.bind e (λ a. Ok (a.0, before ++ a.1 ∷ []))
          ≡ ahead before (outcome.bind e (λ a. Ok (a.0, a.1 ∷ [])))
      by before (Err fault) = refl
      by before (Ok a) = refl

  -- the fuel was enough
  abbrev pub told : {X : Type 0} → R → Result (S × X) Fault → Result (Unit {0} × ((T × St) × X)) Fault
  told r (Ok a) = Ok (tt, (world r a.0, a.1))
  told r (Err fault) = Err fault

  pub settled_agrees : {X : Type 0} (r : R) (run : Fueled (Unit {0} × ((T × St) × X))) (e : Result (S × X) Fault)
      → HasFuel run
      → Agrees r run e → as_step run ≡ told r e
  unfolding Agrees HasFuel as_step
  settled_agrees r OutOfFuel e k h = absurd k
  settled_agrees r (Failed fault) e k h = sym (ap (told r) h)
  settled_agrees r (Done d) e k h = ap (λ w. Ok (tt, (w, d.1.1))) h.2 ∙ sym (ap (told r) h.1)

  pub gives_leaves : {X : Type 0} (r : R) (e : Result (S × X) Fault) (result : Result (Unit {0}) Fault) (w : T × St)
      (y : X)
      → IsStep (told r e) result (w, y)
      → OnOk result ((s : S) × (e ≡ Ok (s, y)) × (w ≡ world r s)) × IfErr result (λ fault. (fault ≡ NoMemory) ⊎ (e ≡ Err fault))
  gives_leaves r (Ok a) (Ok u) w y h =
      let same = Ok-injective (tt, (world r a.0, a.1)) (u, (w, y)) h in
      ((a.0, ap (λ d. Ok (a.0, d.1.1)) same, ap (λ d. d.1.0) (sym same)), tt)
  gives_leaves r (Ok a) (Err fault) w y (inl h) = (tt, inl h)
  gives_leaves r (Ok a) (Err fault) w y (inr h) = let bad : ⊥ = cc in absurd bad
  gives_leaves r (Err given) (Ok u) w y h = let bad : ⊥ = cc in absurd bad
  gives_leaves r (Err given) (Err fault) w y (inl h) = (tt, inl h)
  gives_leaves {X} r (Err given) (Err fault) w y (inr h) =
      (tt, inr (ap Err (Err-injective {A = Unit {0} × ((T × St) × X)} given fault h)))
