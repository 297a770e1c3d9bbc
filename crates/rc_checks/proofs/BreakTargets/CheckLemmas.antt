-- The check of break targets ends at the first jump that names no label met by then.
use Rattle.std.proofs.Common.{◌≡◌, ◌⊎◌, inl, inr, ℕ, zero, suc, Bool, true, false, ◌||◌, List, [], ◌∷◌, ◌++◌, take, Option}
use Rattle.std.proofs.Common.{None, Some, Result, Ok, Err, Contains, refl, sym, ap, subst, ◌∙◌, if◌then◌else◌}
use Rattle.std.proofs.Common.{append_assoc, true≢false, arith}
use Rattle.std.specs.Prelude.{option_and_then, IfErr, OnOk}
use Rattle.std.specs.Cmp.{nat_cmp_total, unsigned_tied}
use Rattle.std.specs.FinSet.{contains, contains-empty, contains-insert, empty}
use Rattle.std.specs.Ordering.{nat_cmp}
use Rattle.std.proofs.lemmas.List.{append-nil}
use Rattle.std.proofs.lemmas.List.Folds.{list_any-append}
use Rattle.std.proofs.lemmas.Map.Views.{list_any-from_Contains, Contains-from_any}
use Rattle.std.proofs.lemmas.Option.{slice_get_past}
use Rattle.rc_hir.specs.Model.{Fault}
use Rattle.rc_hir.specs.declared.fault.Fault.TheVariants.{BadTarget, NoMemory}
use Rattle.rc_names.specs.Numbers.{BlockId, is_among, same_id}
use Rattle.rc_names.proofs.NumbersLemmas.{ids_equivalence, same_id-eq}
use Rattle.rc_tree.specs.Step.{IsStep, bind, each}
use Rattle.rc_tree.specs.Model.{ReactiveLabel}
use Rattle.rc_checks.specs.BreakTargets.{MetTerminal, Terminals, label_block, labels_of, IsJumpTo, HasMetTargets}
use Rattle.rc_checks.specs.BreakTargets.{IsFirstUnmet}
use Rattle.rc_checks.specs.inside.TargetSteps.{MetLabels, with_label, target_step, terminal_step}

-- the labels noted are those of the terminals that were met

abbrev HasLabels : MetLabels → List BlockId → Type 0
HasLabels labels all = (block : BlockId) → contains labels block.0 ≡ is_among all block

last_first : (a b : Bool) → (b || a) ≡ (a || (b || false))
last_first true true = refl
last_first true false = refl
last_first false true = refl
last_first false false = refl

with_label-has : (labels : MetLabels) (all : List BlockId) (label : Option ReactiveLabel) → HasLabels labels all
    → HasLabels (with_label label labels) (all ++ label_block label)
with_label-has labels all None has = subst (HasLabels labels) (sym (append-nil all)) has
with_label-has labels all (Some label) has = λ block.
    contains-insert nat_cmp_total labels label.id.0 block.0
    ∙ ap (λ b. b || contains labels block.0) (unsigned_tied block.0 label.id.0)
    ∙ ap (λ b. same_id block label.id || b) (has block)
    ∙ last_first (is_among all block) (same_id block label.id)
    ∙ sym (list_any-append (same_id block) all (label.id ∷ []))

labels_of-push : (seen : Terminals) (x : MetTerminal)
    → labels_of seen ++ label_block x.label ≡ labels_of (seen ++ x ∷ [])
labels_of-push [] x = sym (append-nil (label_block x.label))
labels_of-push (y ∷ seen) x =
    append_assoc (label_block y.label) (labels_of seen) (label_block x.label)
    ∙ ap (λ l. label_block y.label ++ l) (labels_of-push seen x)

-- where the check of some terminals ends, after others

abbrev AllMetFrom : Terminals → Terminals → Type 0
AllMetFrom seen met = (place : ℕ) (target : BlockId) → IsJumpTo met place target
    → Contains (labels_of (seen ++ take (suc place) met)) target

record FirstUnmetFrom (seen met : Terminals) (fault : Fault) : Type 0 where
  target : BlockId
  is : fault ≡ BadTarget target
  place : ℕ
  jumps : IsJumpTo met place target
  unmet : Contains (labels_of (seen ++ take (suc place) met)) target → ⊥
  before : AllMetFrom seen (take place met)

abbrev Ends : Terminals → Terminals → Result (Unit {0} × MetLabels) Fault → Type 0
Ends seen met (Ok end) = AllMetFrom seen met
Ends seen met (Err fault) = FirstUnmetFrom seen met fault

none_met : (seen : Terminals) → AllMetFrom seen []
none_met seen place target jumps =
    let none : None ≡ Some target =
    sym (ap (option_and_then (λ (x : MetTerminal). x.target)) (slice_get_past [] place (omega arith)))
    ∙ jumps in
    let bad : ⊥ = cc in
    absurd bad

module _ (seen : Terminals) (x : MetTerminal) (xs : Terminals) where
  -- the target of the terminal, where it is a jump, is met
  abbrev IsMet : Type 0
  IsMet = (target : BlockId) → x.target ≡ Some target → Contains (labels_of (seen ++ x ∷ [])) target

  one_more : IsMet → AllMetFrom (seen ++ x ∷ []) xs → AllMetFrom seen (x ∷ xs)
  one_more here later zero target jumps = here target jumps
  one_more here later (suc place) target jumps =
      subst (λ l. Contains (labels_of l) target) (append_assoc seen (x ∷ []) (take (suc place) xs))
      (later place target jumps)

module _ (seen : Terminals) (x : MetTerminal) (xs : Terminals) where
  onward : IsMet seen x xs → (r : Result (Unit {0} × MetLabels) Fault) → Ends (seen ++ x ∷ []) xs r
      → Ends seen (x ∷ xs) r
  onward here (Ok end) later = one_more seen x xs here later
  onward here (Err fault) later = record {
    target = later.target;
    is = later.is;
    place = suc later.place;
    jumps = later.jumps;
    unmet = λ there. later.unmet (subst (λ l. Contains (labels_of l) later.target)
        (sym (append_assoc seen (x ∷ []) (take (suc later.place) xs))) there);
    before = one_more seen x (take later.place xs) here later.before;
  }

  -- from the labels that the terminal leaves
  at_first : (labels : MetLabels) → HasLabels labels (labels_of (seen ++ x ∷ []))
      → Ends (seen ++ x ∷ []) xs (each terminal_step xs labels) →
      (jump : Option BlockId) → x.target ≡ jump → Ends seen (x ∷ xs)
      (bind (target_step jump labels) (λ r. each terminal_step xs r.1))
  at_first labels has later None is =
      onward (λ target jumps. let z : None ≡ Some target = sym is ∙ jumps in let bad : ⊥ = cc in absurd bad)
      (each terminal_step xs labels) later
  at_first labels has later (Some target) is = by (contains labels target.0) refl
    where
      by : (b : Bool) → contains labels target.0 ≡ b →
          Ends seen (x ∷ xs) (bind {A = Unit {0} × MetLabels} (if b then Ok (tt, labels) else Err (BadTarget target))
          (λ r. each terminal_step xs r.1))
      by true found =
          let there = Contains-from_any same_id-eq target (labels_of (seen ++ x ∷ [])) (sym (has target) ∙ found) in
          onward (λ other jumps.
          let same : target ≡ other = (let z : Some target ≡ Some other = sym is ∙ jumps in cc) in subst
          (Contains (labels_of (seen ++ x ∷ []))) same there)
          (each terminal_step xs labels) later
      by false absent = record {
        target = target;
        is = refl;
        place = zero;
        jumps = is;
        unmet = λ there. absurd (true≢false (sym (list_any-from_Contains ids_equivalence target
            (labels_of (seen ++ x ∷ [])) there) ∙ sym (has target) ∙ absent));
        before = none_met seen;
      }

ends : (met seen : Terminals) (labels : MetLabels) → HasLabels labels (labels_of seen)
    → Ends seen met (each terminal_step met labels)
ends [] seen labels has = none_met seen
ends (x ∷ xs) seen labels has =
    let next : HasLabels (with_label x.label labels) (labels_of (seen ++ x ∷ [])) =
    subst (HasLabels (with_label x.label labels)) (labels_of-push seen x)
    (with_label-has labels (labels_of seen) x.label has) in
    at_first seen x xs (with_label x.label labels) next (ends xs (seen ++ x ∷ []) (with_label x.label labels) next)
    x.target refl

no_labels : HasLabels empty []
no_labels block = contains-empty nat_cmp block.0

-- the whole check: it goes through where each target is met
pub all_targets_are_met : (met : Terminals) (end : Unit {0} × MetLabels) → each terminal_step met empty ≡ Ok end
    → HasMetTargets met
all_targets_are_met met end is = subst (Ends [] met) is (ends met [] empty no_labels)

-- and its fault is the first target that isn't
pub first_unmet : (met : Terminals) (target : BlockId) → each terminal_step met empty ≡ Err (BadTarget target)
    → IsFirstUnmet met target
first_unmet met target is =
    let found : FirstUnmetFrom [] met (BadTarget target) = subst (Ends [] met) is (ends met [] empty no_labels) in
    let same : found.target ≡ target = (let z : BadTarget target ≡ BadTarget found.target = found.is in cc) in
    subst (IsFirstUnmet met) same
    (record { place = found.place; jumps = found.jumps; unmet = found.unmet; before = found.before })

pub bad_targets_only : (met : Terminals) (fault : Fault) → each terminal_step met empty ≡ Err fault → (target : BlockId)
    × (fault ≡ BadTarget target)
bad_targets_only met fault is =
    let found : FirstUnmetFrom [] met fault = subst (Ends [] met) is (ends met [] empty no_labels) in
    (found.target, found.is)

-- the result of the check, which may be out of memory

pub answers_ok : (met : Terminals) (r : Result (Unit {0}) Fault) (end : MetLabels)
    → IsStep (each terminal_step met empty) r end → OnOk r (HasMetTargets met)
answers_ok met (Ok done) end is = all_targets_are_met met (done, end) is
answers_ok met (Err fault) end given = tt

pub answers_bad_target : (met : Terminals) (r : Result (Unit {0}) Fault) (end : MetLabels)
    → IsStep (each terminal_step met empty) r end →
    (target : BlockId) → r ≡ Err (BadTarget target) → IsFirstUnmet met target
answers_bad_target met (Ok done) end is target bad = let wrong : ⊥ = cc in absurd wrong
answers_bad_target met (Err fault) end (inl memory) target bad = let wrong : ⊥ = cc in absurd wrong
answers_bad_target met (Err fault) end (inr is) target bad =
    let same : fault ≡ BadTarget target = cc in
    first_unmet met target (subst (λ f. each terminal_step met empty ≡ Err f) same is)

pub answers_only : (met : Terminals) (r : Result (Unit {0}) Fault) (end : MetLabels)
    → IsStep (each terminal_step met empty) r end →
    IfErr r (λ fault. (fault ≡ NoMemory) ⊎ ((target : BlockId) × (fault ≡ BadTarget target)))
answers_only met (Ok done) end is = tt
answers_only met (Err fault) end (inl memory) = inl memory
answers_only met (Err fault) end (inr is) = inr (bad_targets_only met fault is)
