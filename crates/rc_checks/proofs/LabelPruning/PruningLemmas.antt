-- Label pruning follows its rules: the result of each call on lists, blocks and statements, over plain variables.
use Rattle.std.proofs.Common.{◌≡◌, ◌∙◌, ◌≤◌, ◌<◌, ◌+◌, ◌-◌, ℕ, Bool, List, [], ◌∷◌, ◌++◌}
use Rattle.std.proofs.Common.{Option, None, Some, Result, Ok, Err, OnOk, append_assoc, drop, length, map}
use Rattle.std.proofs.Common.{option_map, reverse, slice_get, slice_set, take, refl, sym, ap, arith}
use Rattle.std.specs.FinSet.{empty}
use Rattle.std.proofs.lemmas.List.{drop_all, drop_more, reverse-append, take-append-drop}
use Rattle.std.proofs.lemmas.Option.{get_or_from_slice_get, slice_get_within}
use Rattle.std.proofs.lemmas.Result.{on_ok_weaker}
use Rattle.rc_checks.specs.inside.LabelPruning.{IsLastPut, put_behind}
use Rattle.rc_walk.specs.Statements.{added_if}
use Rattle.rc_checks.specs.Labels.{IsWithoutUnusedLabels, Targets, label_rules}
use Rattle.rc_hir.specs.Model.{Fault}
use Rattle.rc_tree.proofs.StepLemmas.{Ok-injective}
use Rattle.rc_tree.proofs.PlaceLemmas.{last_set, past_end}
use Rattle.rc_tree.proofs.RebuiltLemmas.{if_some, rebuilt-block, rebuilt-case, rebuilt-scope, rebuilt-pruned_scope}
use Rattle.rc_tree.proofs.RebuiltLemmas.{rebuilt-Instruction, rebuilt-Scope, rebuilt-PrunedScope}
use Rattle.rc_tree.specs.Step.{bind}
use Rattle.rc_tree.specs.Rebuilt.{if_there, in_order, joined, rebuilt_block, rebuilt_case, rebuilt_statement}
use Rattle.rc_tree.specs.Model.{PrunedReactiveScopeBlock, ReactiveScopeBlock, ReactiveBlock, ReactiveStatement}
use Rattle.rc_tree.specs.Model.{ReactiveSwitchCase, ReactiveInstruction}
use Rattle.rc_tree.specs.declared.statement.ReactiveStatement.TheVariants as reactive
use Rattle.rc_tree.specs.declared.terminal.ReactiveSwitchCase.{out-ReactiveSwitchCase, roll-ReactiveSwitchCase}

-- statements pruned one after the other
abbrev pub all_of : List ReactiveStatement → Targets → Result (Targets × List ReactiveStatement) Fault
all_of statements t = joined (map (rebuilt_statement label_rules) statements) t

-- the same of the cases of a switch
abbrev pub all_cases : List ReactiveSwitchCase → Targets → Result (Targets × List ReactiveSwitchCase) Fault
all_cases cases t = in_order (map (rebuilt_case label_rules) cases) t

-- a part that is put after nothing
pub behind_nothing : {X : Type 0} (part : Result (Targets × List X) Fault) → put_behind [] part ≡ part
behind_nothing (Ok a) = refl
behind_nothing (Err fault) = refl

-- the statements that are done and a front, then a part after both
behind_front : {X : Type 0} (done front : List X) (part : Result (Targets × List X) Fault)
    → put_behind done (bind part (λ b. Ok (b.0, front ++ b.1))) ≡ put_behind (done ++ front) part
behind_front done front (Ok b) = ap (λ l. Ok (b.0, l)) (sym (append_assoc done front b.1))
behind_front done front (Err fault) = refl

turned : {X : Type 0} (left rest : List X) (x : X) → left ≡ rest ++ x ∷ [] → reverse left ≡ x ∷ reverse rest
turned left rest x e = ap reverse e ∙ reverse-append rest (x ∷ [])

-- the replacement of the next statement
module _ (x : ReactiveStatement) (t t1 : Targets) (done done1 : List ReactiveStatement)
    (put : put_behind done (rebuilt_statement label_rules x t) ≡ Ok (t1, done1)) where
  next_behind : (rest : List ReactiveStatement) (part : Result (Targets × List ReactiveStatement) Fault)
      → put_behind done part ≡ Ok (t1, done1)
      → put_behind done (bind part (λ a. bind (all_of rest a.0) (λ b. Ok (b.0, a.1 ++ b.1))))
      ≡ put_behind done1 (all_of rest t1)
  next_behind rest (Ok a) e =
      let same : (a.0, done ++ a.1) ≡ (t1, done1) = Ok-injective (a.0, done ++ a.1) (t1, done1) e in
      behind_front done a.1 (all_of rest a.0)
      ∙ ap (λ (p : Targets × List ReactiveStatement). put_behind p.1 (all_of rest p.0)) same
  next_behind rest (Err fault) e = let bad : ⊥ = cc in absurd bad

  pub first_put : (rest : List ReactiveStatement)
      → put_behind done (all_of (x ∷ rest) t) ≡ put_behind done1 (all_of rest t1)
  first_put rest = next_behind rest (rebuilt_statement label_rules x t) put

  -- the same from the other end of those that are left
  pub next_put : (left rest : List ReactiveStatement) → left ≡ rest ++ x ∷ []
      → put_behind done (all_of (reverse left) t) ≡ put_behind done1 (all_of (reverse rest) t1)
  next_put left rest is_last =
      ap (λ l. put_behind done (all_of l t)) (turned left rest x is_last) ∙ first_put (reverse rest)

-- a block that may be left out
pub same_if : (block : Option ReactiveBlock) (t : Targets)
    → if_some (rebuilt_block label_rules) block t ≡ if_there (option_map (rebuilt_block label_rules) block) t
same_if None t = refl
same_if (Some block) t = refl

-- the next case of those that are put
module _ (left rest : List ReactiveSwitchCase) (case : ReactiveSwitchCase) (t t1 : Targets)
    (done : List ReactiveSwitchCase) (block1 : Option ReactiveBlock) where
  abbrev case1 : ReactiveSwitchCase
  case1 = roll-ReactiveSwitchCase (record { test = (out-ReactiveSwitchCase case).test; block = block1 })

  pub next_case : left ≡ rest ++ case ∷ []
      → if_there (option_map (rebuilt_block label_rules) (out-ReactiveSwitchCase case).block) t ≡ Ok (t1, block1)
      → put_behind done (all_cases (reverse left) t) ≡ put_behind (done ++ case1 ∷ []) (all_cases (reverse rest) t1)
  next_case is_last h = ap (λ l. put_behind done (all_cases l t)) (turned left rest case is_last)
      ∙ rw (rebuilt-case label_rules case t, same_if (out-ReactiveSwitchCase case).block t, h)
      (behind_front done (case1 ∷ []) (all_cases (reverse rest) t1))

-- the last entry of a list, changed in its place
module _ {X : Type 0} (left : List X) (x : X) (is : slice_get left (length left - 1) ≡ Some x) where
  abbrev rest_of : List X
  rest_of = take (length left - 1) left

  last_splits : left ≡ rest_of ++ x ∷ []
  last_splits =
      let within : length left - 1 < length left = slice_get_within left (length left - 1) x is in
      let rest : drop (length left - 1) left ≡ x ∷ [] = drop_more left (length left - 1) x within
      ∙ ap (λ y. y ∷ drop (length left - 1 + 1) left) (get_or_from_slice_get left (length left - 1) x x is)
      ∙ ap (λ l. x ∷ l) (drop_all (length left - 1 + 1) left (omega (arith, within))) in
      sym (take-append-drop (length left - 1) left) ∙ ap (λ l. rest_of ++ l) rest

  last_changed : (y : X) → slice_set left (length left - 1) y ≡ rest_of ++ y ∷ []
  last_changed y =
      let within : length left - 1 < length left = slice_get_within left (length left - 1) x is in
      last_set left rest_of x y (length left - 1) last_splits (omega (arith, within))

-- a list that isn't empty has a last entry
pub no_last : {X : Type 0} (left : List X) (count : ℕ) → count ≡ length left → 0 < length left
    → None ≡ slice_get left (count - 1) → ⊥
no_last left count is more none =
    let h : length left ≤ count - 1 = past_end left (count - 1) (sym none) in omega (arith, is, more, h)

-- the last statement, pruned in its place and put
module _ {E : Type 0} (r : Result (Unit {0}) E) (left left1 left2 done done1 done2 : List ReactiveStatement)
    (t t1 : Targets) (stays : Bool)
    (put : (rest : List ReactiveStatement) (last : ReactiveStatement) → left1 ≡ rest ++ last ∷ []
    → OnOk r ((left2 ≡ rest) × (done2 ≡ done1 ++ added_if stays last))) where
  pub puts_last : (count : ℕ) (x y : ReactiveStatement) → count ≡ length left → Some x ≡ slice_get left (count - 1)
      → left1 ≡ slice_set left (count - 1) y
      → put_behind done (rebuilt_statement label_rules x t) ≡ Ok (t1, done1 ++ added_if stays y)
      → OnOk r (IsLastPut left t done left2 t1 done2)
  puts_last count x y is there changed pruned =
      let last : slice_get left (length left - 1) ≡ Some x =
      ap (λ n. slice_get left (n - 1)) (sym is) ∙ sym there in
      let left1-is : left1 ≡ take (length left - 1) left ++ y ∷ [] =
      changed ∙ ap (λ n. slice_set left (n - 1) y) is ∙ last_changed left x last y in
      on_ok_weaker r
      (λ h. record {
        last = x;
        is_last = last_splits left x last ∙ ap (λ l. l ++ x ∷ []) (sym h.0);
        put = pruned ∙ ap (λ l. Ok (t1, l)) (sym h.1);
      })
      (put (take (length left - 1) left) y left1-is)

-- rows and scope blocks stay
module _ (done : List ReactiveStatement) (t t1 : Targets) where
  pub row_stays : (row : ReactiveInstruction)
      → put_behind done (rebuilt_statement label_rules (reactive.Instruction row) t)
      ≡ Ok (t, done ++ reactive.Instruction row ∷ [])
  row_stays row = rw (rebuilt-Instruction label_rules row t) refl

  pub scope_stays : (scope : ReactiveScopeBlock) (body1 : ReactiveBlock)
      → rebuilt_block label_rules scope.instructions t ≡ Ok (t1, body1)
      → put_behind done (rebuilt_statement label_rules (reactive.Scope scope) t)
      ≡ Ok (t1, done ++ reactive.Scope (record { scope = scope.scope; instructions = body1 }) ∷ [])
  scope_stays scope body1 h = rw (rebuilt-Scope label_rules scope t, rebuilt-scope label_rules scope t, h) refl

  pub pruned_scope_stays : (scope : PrunedReactiveScopeBlock) (body1 : ReactiveBlock)
      → rebuilt_block label_rules scope.instructions t ≡ Ok (t1, body1)
      → put_behind done (rebuilt_statement label_rules (reactive.PrunedScope scope) t)
      ≡ Ok (t1, done ++ reactive.PrunedScope (record { scope = scope.scope; instructions = body1 }) ∷ [])
  pruned_scope_stays scope body1 h =
      rw (rebuilt-PrunedScope label_rules scope t, rebuilt-pruned_scope label_rules scope t, h) refl

-- a block of statements
abbrev pub as_block : Targets × List ReactiveStatement → Result (Targets × ReactiveBlock) Fault
as_block a = Ok (a.0, record { statements = a.1 })

pub block_pruned : (x : ReactiveBlock) (t t1 : Targets) (done1 : List ReactiveStatement)
    → put_behind [] (all_of x.statements t) ≡ Ok (t1, done1)
    → rebuilt_block label_rules x t ≡ Ok (t1, record { statements = done1 })
block_pruned x t t1 done1 h = rw (rebuilt-block label_rules x t) (by (all_of x.statements t) h)
  where
    by : (part : Result (Targets × List ReactiveStatement) Fault) → put_behind [] part ≡ Ok (t1, done1)
        → bind part as_block ≡ Ok (t1, record { statements = done1 })
    by (Ok a) e = ap (λ (r : Result (Targets × List ReactiveStatement) Fault). bind r as_block) e
    by (Err fault) e = let bad : ⊥ = cc in absurd bad

-- a block that is pruned from the empty set of targets
pub without_labels : (before after : ReactiveBlock) (t t1 : Targets) → t ≡ empty
    → rebuilt_block label_rules before t ≡ Ok (t1, after) → IsWithoutUnusedLabels before after
without_labels before after t t1 none e = record { targets = t1; rebuilt = rw none at e }
