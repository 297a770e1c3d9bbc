-- The events of parts that are added one after the other.
use Rattle.std.proofs.Common.{◌≡◌, ◌∙◌, ℕ, ◌+◌, ◌<◌, ◌≤◌, List, [], ◌∷◌, ◌++◌, ap, append-nil, arith, drop, get_or}
use Rattle.std.proofs.Common.{length, refl, subst, suc, sym, zero}
use Rattle.std.specs.List.{flat_map}
use Rattle.std.proofs.lemmas.List.{drop_more}
use Rattle.rc_hir.specs.Model.{Environment}
use Rattle.rc_names.specs.Numbers.{EvaluationOrder, ScopeId}
use Rattle.rc_tree.proofs.CollectedLemmas.{collected-case, collected-Scope, collected_forms}
use Rattle.rc_tree.specs.Collected.{collected, collected_case, collected_cases, collected_if, collected_list}
use Rattle.rc_tree.specs.Collected.{collected_statement}
use Rattle.rc_tree.specs.Collected.{collected_terminal}
use Rattle.rc_tree.specs.Model.{ReactiveScopeBlock, ReactiveStatement, ReactiveSwitchCase, ReactiveTerminal}
use Rattle.rc_tree.specs.declared.statement.ReactiveStatement.TheVariants as reactive
use Rattle.rc_tree.specs.declared.statement.ReactiveStatement.TheViews.{out-ReactiveSwitchCase}
use Rattle.rc_tree.specs.declared.statement.ReactiveStatement.TheViews.{roll-out-ReactiveSwitchCase}
use Rattle.rc_memo.proofs.TellsLemmas.{tells_joined, tells_nothing, tells_same}
use Rattle.rc_hir.specs.Environment.{declaration_of}
use Rattle.rc_memo.specs.TreeEvents.{Events, events_of_parts, reassigned_by, reassigned_events}
use Rattle.rc_memo.specs.declared.event.MemoEvent.{MemoEvent}
use Rattle.rc_memo.specs.declared.event.MemoEvent.TheVariants as kinds
use Rattle.rc_memo.specs.declared.recording.Recording.{Recording}
use Rattle.rc_memo.specs.inside.Recording.{Tells}

drop_all : {X : Type 0} (xs : List X) (i : ℕ) → length xs ≤ i → drop i xs ≡ []
drop_all [] zero le = refl
drop_all [] (suc i) le = refl
drop_all (x ∷ xs) zero le = absurd (omega (arith, le))
drop_all (x ∷ xs) (suc i) le = drop_all xs i (omega (arith, le))

-- with these, `search` unfolds each form of a tree
pub ruleset parts = (collected_forms, append-nil, tells_nothing)

module _ (env : Environment) where
  -- what is added in one, two, three and four steps
  pub in_one : (old new : Recording) (a whole : List MemoEvent) → whole ≡ a → Tells env a old new → Tells env whole old new
  in_one old new a whole is first = tells_same env a whole old new is first

  pub in_two : (old one new : Recording) (a b whole : List MemoEvent) → whole ≡ a ++ b → Tells env a old one
      → Tells env b one new → Tells env whole old new
  in_two old one new a b whole is first second = tells_joined env old one new a b whole is first second

  pub in_three : (old one two new : Recording) (a b c whole : List MemoEvent) → whole ≡ a ++ (b ++ c)
      → Tells env a old one → Tells env b one two → Tells env c two new → Tells env whole old new
  in_three old one two new a b c whole is first second third =
      in_two old one new a (b ++ c) whole is first (in_two one two new b c (b ++ c) refl second third)

  pub in_four : (old one two three new : Recording) (a b c d whole : List MemoEvent) → whole ≡ a ++ (b ++ (c ++ d))
      → Tells env a old one → Tells env b one two → Tells env c two three → Tells env d three new
      → Tells env whole old new
  in_four old one two three new a b c d whole is first second third fourth =
      in_two old one new a (b ++ (c ++ d)) whole is first
      (in_three one two three new b c d (b ++ (c ++ d)) refl second third fourth)

  -- a terminal and a statement have the events of their form
  pub terminal_is : (around : List ScopeId) {x y : ReactiveTerminal} {held : Events} → x ≡ y
      → collected_terminal (events_of_parts env) y ≡ held → collected_terminal (events_of_parts env) x around
      ≡ held around
  terminal_is around is form = ap (λ w. collected_terminal (events_of_parts env) w around) is
      ∙ ap (λ (f : Events). f around) form

  pub statement_is : (around : List ScopeId) {x y : ReactiveStatement} {held : Events} → x ≡ y
      → collected_statement (events_of_parts env) y ≡ held
      → collected_statement (events_of_parts env) x around ≡ held around
  statement_is around is form = ap (λ w. collected_statement (events_of_parts env) w around) is
      ∙ ap (λ (f : Events). f around) form

  -- a scope block adds what it reassigns, and then its inside
  pub adds_scope_block : (x : ReactiveStatement) (block : ReactiveScopeBlock) (around inside : List ScopeId)
      (old one new : Recording) → x ≡ reactive.Scope block → inside ≡ around ++ block.scope ∷ []
      → Tells env (flat_map (λ number. kinds.Within (declaration_of env number) inside ∷ [])
      (reassigned_by env block.scope)) old one
      → Tells env (collected (events_of_parts env) block.instructions inside) one new
      → Tells env (collected_statement (events_of_parts env) x around) old new
  adds_scope_block x block around inside old one new is within first second =
      in_two old one new (reassigned_events env block.scope around)
      (collected (events_of_parts env) block.instructions (around ++ block.scope ∷ [])) _
      (statement_is around is (collected-Scope (events_of_parts env) block))
      (subst (λ w. Tells env (flat_map (λ number. kinds.Within (declaration_of env number) w ∷ [])
      (reassigned_by env block.scope)) old one) within first)
      (subst (λ w. Tells env (collected (events_of_parts env) block.instructions w) one new) within second)

  -- the events of a part that are still to come, whatever is told after them
  pub next_told : (start old mid : Recording) (first rest left whole : List MemoEvent) → left ≡ first ++ rest
      → Tells env first old mid
      → ((new : Recording) → Tells env left old new → Tells env whole start new)
      → (new : Recording) → Tells env rest mid new → Tells env whole start new
  next_told start old mid first rest left whole is told so_far new later =
      so_far new (tells_joined env old mid new first rest left is told later)

  abbrev parts_case : ReactiveSwitchCase → EvaluationOrder → Events
  parts_case = collected_case (events_of_parts env)

  -- a case has the events of its block
  case-block : (x : ReactiveSwitchCase) (id : EvaluationOrder)
      → parts_case x id ≡ collected_if (events_of_parts env) (out-ReactiveSwitchCase x).block
  case-block x id = ap (λ y. parts_case y id) (sym (roll-out-ReactiveSwitchCase x))
      ∙ collected-case (events_of_parts env) (out-ReactiveSwitchCase x).test (out-ReactiveSwitchCase x).block id

  -- the events of the next case, and of the next statement
  pub cases_next : (around : List ScopeId) (cases : List ReactiveSwitchCase) (i : ℕ) (case' : ReactiveSwitchCase)
      (id : EvaluationOrder) → i < length cases → case' ≡ get_or cases i case'
      → collected_cases (events_of_parts env) id (drop i cases) around
      ≡ collected_if (events_of_parts env) (out-ReactiveSwitchCase case').block around
      ++ collected_cases (events_of_parts env) id (drop (i + 1) cases) around
  cases_next around cases i case' id below at =
      ap (λ w. collected_cases (events_of_parts env) id w around)
      (drop_more cases i case' below ∙ ap (λ y. y ∷ drop (i + 1) cases) (sym at))
      ∙ ap (λ w. w around ++ collected_cases (events_of_parts env) id (drop (i + 1) cases) around) (case-block case' id)

  pub statements_next : (around : List ScopeId) (all : List ReactiveStatement) (i : ℕ) (statement : ReactiveStatement)
      → i < length all → statement ≡ get_or all i statement
      → collected_list (events_of_parts env) (drop i all) around
      ≡ collected_statement (events_of_parts env) statement around
      ++ collected_list (events_of_parts env) (drop (i + 1) all) around
  statements_next around all i statement below at =
      ap (λ w. collected_list (events_of_parts env) w around)
      (drop_more all i statement below ∙ ap (λ y. y ∷ drop (i + 1) all) (sym at))

  -- nothing is still to come
  all_told : (start mid : Recording) (left whole : List MemoEvent) → left ≡ []
      → ((new : Recording) → Tells env left mid new → Tells env whole start new) → Tells env whole start mid
  all_told start mid left whole is so_far = so_far mid (tells_same env [] left mid mid is (tells_nothing env mid))

  pub cases_told : (around : List ScopeId) (cases : List ReactiveSwitchCase) (i : ℕ) (id : EvaluationOrder)
      (start mid : Recording) → length cases ≤ i
      → ((new : Recording) → Tells env (collected_cases (events_of_parts env) id (drop i cases) around) mid new
      → Tells env (collected_cases (events_of_parts env) id cases around) start new)
      → Tells env (collected_cases (events_of_parts env) id cases around) start mid
  cases_told around cases i id start mid past so_far = all_told start mid _ _
      (ap (λ w. collected_cases (events_of_parts env) id w around) (drop_all cases i past)) so_far

  pub statements_told : (around : List ScopeId) (all : List ReactiveStatement) (i : ℕ) (start mid : Recording)
      → length all ≤ i
      → ((new : Recording) → Tells env (collected_list (events_of_parts env) (drop i all) around) mid new
      → Tells env (collected_list (events_of_parts env) all around) start new)
      → Tells env (collected_list (events_of_parts env) all around) start mid
  statements_told around all i start mid past so_far = all_told start mid _ _
      (ap (λ w. collected_list (events_of_parts env) w around) (drop_all all i past)) so_far
