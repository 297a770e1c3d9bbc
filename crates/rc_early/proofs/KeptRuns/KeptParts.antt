-- A part of a plain tree with its early returns is a part of a plain tree again, with the same runs: what is asked of
-- each kind of part, and lists whose statements have the runs that they had.
use Rattle.std.proofs.Common.{◌≡◌, ◌∙◌, true, List, [], ◌++◌, Option, None, Result, Ok, Err, map}
use Rattle.std.proofs.Common.{refl, sym, ap, subst}
use Rattle.std.specs.Prelude.{All, IfSome}
use Rattle.rc_hir.specs.Model.{Environment, Fault, Place, ReactiveScopeEarlyReturn}
use Rattle.rc_tree.specs.Model.{ReactiveStatement}
use Rattle.rc_tree.specs.Rebuilt.{Rebuilds, in_order, joined, rebuilt_block, rebuilt_case, rebuilt_statement}
use Rattle.rc_tree.specs.Step.{bind}
use Rattle.rc_tree.proofs.RebuiltLemmas.{if_some, rebuilt-block}
use Rattle.rc_tree.proofs.StepLemmas.{Ok-injective}
use Rattle.rc_runs.specs.PlainTree.{Alternate, Cases, Statements, Nil, Cons, Statement}
use Rattle.rc_runs.specs.Returning.{is_early_label, returning, returning_after, returning_alternate, returning_cases}
use Rattle.rc_runs.specs.Returning.{returning_statement, stored_by}
use Rattle.rc_runs.specs.TreeOf.{alternate_of, block_of, cases_of, statement_of, statements_of}
use Rattle.rc_runs.proofs.KeepsRunsLemmas.{SameAlternateRuns, SameRuns, append-keeps_runs}
use Rattle.rc_runs.proofs.KeepsRunsLemmas.{same-keeps_runs}
use Rattle.rc_runs.proofs.PlainLists.{alone, append, statements_of-append}
use Rattle.rc_runs.proofs.SwitchKeepsRuns.{SameCasesRuns}
use Rattle.rc_early.specs.EarlyReturned.{Progress, early_return_rules as rules}
use Rattle.rc_early.specs.declared.early_return.EarlyReturn.{EarlyReturn}
use Rattle.rc_early.proofs.KeptRuns.ProgressHolds.{IsNew}

-- the first of two steps that succeed, and the second one
pub from_bind : {A B : Type 0} (first : Result A Fault) (next : A → Result B Fault) (r : B) → bind first next ≡ Ok r
    → (a : A) × (first ≡ Ok a) × (next a ≡ Ok r)
from_bind (Ok a) next r e = (a, refl, e)
from_bind (Err fault) next r e = absurd (let bad : ⊥ = cc in bad)

-- the progress and the replacement are the result
abbrev pub AreResult : {X : Type 0} → Progress → X → Progress × X → Type 0
AreResult {X} t x r = ◌≡◌ {A = Result (Progress × X) Fault} (Ok (t, x)) (Ok r)

-- what the last statement of a list stores, or what the one in front of an empty list does
abbrev pub stored_last : Option Place → Statements → Option Place
stored_last stored Nil = stored
stored_last stored (Cons statement rest) = stored_last (stored_by statement) rest

-- early returns in a list, and then in another one
pub returning-append : (env : Environment) (stored : Option Place) (front behind : Statements)
    → returning_after env stored (append front behind)
    ≡ append (returning_after env stored front) (returning_after env (stored_last stored front) behind)
unfolding returning_after
returning-append env stored Nil behind = refl
returning-append env stored (Cons statement rest) behind =
    ap (Cons (returning_statement env stored statement)) (returning-append env (stored_by statement) rest behind)

joined_trees : {xs ys : List ReactiveStatement} (front behind : Statements) → xs ≡ statements_of front
    → ys ≡ statements_of behind → xs ++ ys ≡ statements_of (append front behind)
joined_trees front behind here later = (λ i. here i ++ later i) ∙ sym (statements_of-append front behind)

-- from an environment to the one with all early returns
module _ (old new : Environment) where
  -- the label is a new block, and that of an early return in the second environment
  abbrev pub Fits : ReactiveScopeEarlyReturn → Type 0
  Fits entry = (is_early_label new entry.label ≡ true) × IsNew old entry

  -- the second environment has all early returns that are made or met
  abbrev pub Suits : Progress → Type 0
  Suits s = IfSome s.met Fits × All (λ (early : EarlyReturn). Fits early.entry) s.made

  -- the replacement of a part is the tree of a plain part that has what is asked, and the state before it suits too
  pub record Kept {P X : Type 0} (tree_of : P → X) (Alike : P → Type 0) (s : Progress) (x : X) : Type 0 where
    pub suits : Suits s
    pub after : P
    pub tree : x ≡ tree_of after
    pub alike : Alike after

  abbrev pub KeptFrom : {P X : Type 0} → Rebuilds Progress X → (P → X) → (P → Type 0) → Type 0
  KeptFrom {P} {X} part tree_of Alike = (s : Progress) (r : Progress × X) → part s ≡ Ok r → Suits r.0
      → Kept tree_of Alike s r.1

  -- what is shown of a result holds of an equal one
  pub kept_at : {P X : Type 0} (tree_of : P → X) (Alike : P → Type 0) (s t : Progress) (x : X) (r : Progress × X)
      → AreResult t x r → (Suits t → Kept tree_of Alike s x) → Suits r.0 → Kept tree_of Alike s r.1
  kept_at {X = X} tree_of Alike s t x r e kept =
      subst (λ (c : Progress × X). Suits c.0 → Kept tree_of Alike s c.1) (Ok-injective (t, x) r e) kept

  -- what is asked of a list, a statement, a body, an optional block and cases
  abbrev pub ListAlike : Statements → Statements → Type 0
  ListAlike before after =
      (stored : Option Place) → SameRuns new (returning_after old stored before) (returning_after new stored after)

  abbrev pub StatementAlike : Statement → Statements → Type 0
  StatementAlike before after = (stored : Option Place)
      → SameRuns new (alone (returning_statement old stored before)) (returning_after new stored after)
      × (stored_last stored after ≡ stored_by before)

  abbrev pub BodyAlike : Statements → Statements → Type 0
  BodyAlike before after = SameRuns new (returning old before) (returning new after)

  abbrev pub AlternateAlike : Alternate → Alternate → Type 0
  AlternateAlike before after = SameAlternateRuns new (returning_alternate old before) (returning_alternate new after)

  abbrev pub CasesAlike : Cases → Cases → Type 0
  CasesAlike before after = SameCasesRuns new (returning_cases old before) (returning_cases new after)

  abbrev pub KeptList : Statements → Type 0
  KeptList before =
      KeptFrom (joined (map (rebuilt_statement (rules old)) (statements_of before))) statements_of (ListAlike before)

  abbrev pub KeptStatement : Statement → Type 0
  KeptStatement before =
      KeptFrom (rebuilt_statement (rules old) (statement_of before)) statements_of (StatementAlike before)

  abbrev pub KeptBody : Statements → Type 0
  KeptBody before = KeptFrom (rebuilt_block (rules old) (block_of before)) block_of (BodyAlike before)

  abbrev pub KeptAlternate : Alternate → Type 0
  KeptAlternate before =
      KeptFrom (if_some (rebuilt_block (rules old)) (alternate_of before)) alternate_of (AlternateAlike before)

  abbrev pub KeptCases : Cases → Type 0
  KeptCases before =
      KeptFrom (in_order (map (rebuilt_case (rules old)) (cases_of before))) cases_of (CasesAlike before)

  nil_alike : ListAlike Nil Nil
  unfolding returning_after
  nil_alike stored = (same-keeps_runs new Nil, same-keeps_runs new Nil)

  pub kept_nil : KeptList Nil
  kept_nil s r e = kept_at statements_of (ListAlike Nil) s s [] r e
      (λ suits. record { suits = suits; after = Nil; tree = refl; alike = nil_alike })

  -- a statement, and the statements after it
  cons_alike : (statement : Statement) (rest after more : Statements) → StatementAlike statement after
      → ListAlike rest more → ListAlike (Cons statement rest) (append after more)
  unfolding returning_after
  cons_alike statement rest after more first later stored =
      let one = first stored in
      let all = later (stored_by statement) in
      let from = alone (returning_statement old stored statement) in
      let same = returning-append new stored after more
      ∙ ap (λ last. append (returning_after new stored after) (returning_after new last more)) one.1 in
      subst (SameRuns new (returning_after old stored (Cons statement rest))) (sym same) (
        append-keeps_runs new from _ (returning_after new stored after) _ one.0.0 all.0,
        append-keeps_runs new (returning_after new stored after) _ from _ one.0.1 all.1,
      )

  pub kept_cons : (statement : Statement) (rest : Statements) → KeptStatement statement → KeptList rest
      → KeptList (Cons statement rest)
  kept_cons statement rest first later s r e =
      let one = from_bind (rebuilt_statement (rules old) (statement_of statement) s) _ r e in
      let two = from_bind (joined (map (rebuilt_statement (rules old)) (statements_of rest)) one.0.0) _ r one.2 in
      kept_at statements_of (ListAlike (Cons statement rest)) s two.0.0 (one.0.1 ++ two.0.1) r two.2 (λ suits.
      let more = later one.0.0 two.0 two.1 suits in
      let here = first s one.0 one.1 more.suits in
      record {
        suits = here.suits;
        after = append here.after more.after;
        tree = joined_trees here.after more.after here.tree more.tree;
        alike = cons_alike statement rest here.after more.after here.alike more.alike;
      })

  -- a block of statements
  pub kept_body : (before : Statements) → KeptList before → KeptBody before
  kept_body before list s r e =
      let parts = from_bind (joined (map (rebuilt_statement (rules old)) (statements_of before)) s) _ r
      (sym (rebuilt-block (rules old) (block_of before) s) ∙ e) in
      kept_at block_of (BodyAlike before) s parts.0.0 (record { statements = parts.0.1 }) r parts.2 (λ suits.
      let kept = list s parts.0 parts.1 suits in
      record {
        suits = kept.suits;
        after = kept.after;
        tree = ap (λ xs. record { statements = xs }) kept.tree;
        alike = kept.alike None;
      })
