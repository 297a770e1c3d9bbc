-- The row of a value terminal in the graph, and the value at its fallthrough.
--
-- After its short end a value terminal goes on at its fallthrough, by its own short arm, unless the row is the last
-- one of a test that it answers: then that test goes on by the alternate that is left open.
use Rattle.std.proofs.Common.{◌≡◌, Bool, true, false, List, [], Option, Some, None, ◌⊎◌, inl, inr}
use Rattle.std.proofs.Common.{if◌then◌else◌, refl, sym, ap, ◌∙◌, subst}
use Rattle.std.proofs.lemmas.List.{append-nil}
use Rattle.rc_names.specs.Numbers.{BlockId, EvaluationOrder}
use Rattle.rc_names.specs.declared.span.Span.{Span}
use Rattle.rc_hir.specs.Model.{Terminal, Instruction, HirFunction, Environment}
use Rattle.rc_runs.specs.Event.{Event, End}
use Rattle.rc_runs.specs.Silent.{is_unset}
use Rattle.rc_runs.specs.GraphRun.{GraphRun, stopped, GraphRunAt}
use Rattle.rc_runs.specs.PlainTree.{Value, Sequence, Rows, NoRows, Row}
use Rattle.rc_runs.specs.AnsweredTest.{answers_test}
use Rattle.rc_runs.specs.LastRow.{rows_then}
use Rattle.rc_runs.specs.ShortArms.{SpellsShortArm, no_arm, left_to_test, own_arm}
use Rattle.rc_runs.specs.ValueGrammar.{Nested, SpellsNested}
use Rattle.rc_runs.specs.ValueRun.{Progress, Short, goes_past, goes_past_row, RunsValue, value_stopped}
use Rattle.rc_runs.specs.ValueRun.{in_sequence, RunsRows, past_rows, past_row, in_row, unset_row, set_row}
use Rattle.rc_runs.proofs.ShortArmLemmas.{answer_ends, left_behind, row_of_test}
use Rattle.rc_runs.proofs.Covers.{Extends, Covers, passes, cut_short, stays, extends_then, covers_then}
use Rattle.rc_runs.proofs.ValueRowsToGraph.{rows_covered}
use Rattle.rc_runs.proofs.SilentArmToGraph.{past_silent_arm}
use Rattle.rc_runs.proofs.NestedToGraph.{CoversValue, CoversNested}

-- a choice that holds has its first part
if_holds : (test answers : Bool) → (if test then answers else false) ≡ true → answers ≡ true
if_holds true answers holds = holds
if_holds false answers holds = absurd (let bad : ⊥ = cc in bad)

module _ {hir : HirFunction} {env : Environment} where
  -- past a value terminal: after its short end, its own short arm leads to the fallthrough
  past_nested : {whole : List Event → End → Type 0} {handler : Option BlockId} {next : BlockId}
      {answers is_last : Bool} {short behind left : Option BlockId} {used : List BlockId} {events : List Event}
      {progress : Progress} → SpellsShortArm hir env handler next answers short behind left used
      → ((alternate : BlockId) → short ≡ Some alternate → is_last ≡ answers)
      → Covers hir env short whole (GraphRunAt hir env next) events progress
      → goes_past_row is_last progress ≡ true → Extends whole (GraphRunAt hir env next) events
  past_nested arm alike (passes go) past = go
  past_nested no_arm alike (cut_short e go) past = absurd (let bad : ⊥ = cc in bad)
  past_nested (left_to_test {alternate = alternate}) alike (cut_short e go) past =
      let out = sym (ap (λ last. goes_past_row last Short) (alike alternate refl)) ∙ past in
      absurd (let bad : ⊥ = cc in bad)
  past_nested {next = next} {events = events} (own_arm {alternate = own} arm) alike (cut_short {alternate = a} e go)
      past =
      let same : own ≡ a = cc in
      extends_then go (subst (λ b. Extends (GraphRunAt hir env b) (GraphRunAt hir env next) []) same
      (past_silent_arm arm)) (sym (append-nil events))
  past_nested {is_last = true} arm alike (stays stop) past = absurd (let bad : ⊥ = cc in bad)
  past_nested {is_last = false} arm alike (stays stop) past = absurd (let bad : ⊥ = cc in bad)

  -- out of the rows inside a value terminal: by its short end only if that is left to the test
  out_of_nested : {whole after : List Event → End → Type 0} {handler : Option BlockId} {next : BlockId}
      {answers is_last : Bool} {short behind left : Option BlockId} {used : List BlockId} {events : List Event}
      {progress : Progress} → SpellsShortArm hir env handler next answers short behind left used
      → ((alternate : BlockId) → short ≡ Some alternate → is_last ≡ answers)
      → Covers hir env short whole (GraphRunAt hir env next) events progress
      → goes_past_row is_last progress ≡ false → Covers hir env left whole after events progress
  out_of_nested {is_last = true} arm alike (passes go) out = absurd (let bad : ⊥ = cc in bad)
  out_of_nested {is_last = false} arm alike (passes go) out = absurd (let bad : ⊥ = cc in bad)
  out_of_nested no_arm alike (cut_short e go) out = absurd (let bad : ⊥ = cc in bad)
  out_of_nested left_to_test alike (cut_short e go) out = cut_short e go
  out_of_nested (own_arm {alternate = own} arm) alike (cut_short e go) out =
      let past = sym (ap (λ last. goes_past_row last Short) (alike own refl)) ∙ out in
      absurd (let bad : ⊥ = cc in bad)
  out_of_nested arm alike (stays stop) out = stays stop

  -- past a value terminal in a list, where its short arm is its own
  pub past_own_arm : {whole : List Event → End → Type 0} {handler : Option BlockId} {next : BlockId}
      {short left : Option BlockId} {used : List BlockId} {events : List Event} {progress : Progress}
      → SpellsShortArm hir env handler next false short None left used
      → Covers hir env short whole (GraphRunAt hir env next) events progress → goes_past progress ≡ true
      → Extends whole (GraphRunAt hir env next) events
  past_own_arm arm covered past = past_nested {is_last = false} arm (λ alternate is_short. refl) covered past

  -- what the value after the terminal leaves open stays open, unless it has no short end
  reopen : {whole after : List Event → End → Type 0} {behind left : Option BlockId} {answers : Bool}
      {events : List Event} {progress : Progress} → (left ≡ behind) ⊎ (answers ≡ true)
      → (answers ≡ true → progress ≡ Short → ⊥) → Covers hir env behind whole after events progress
      → Covers hir env left whole after events progress
  reopen way ends (passes go) = passes go
  reopen (inl same) ends (cut_short e go) = cut_short (same ∙ e) go
  reopen (inr answers) ends (cut_short e go) = absurd (ends answers refl)
  reopen way ends (stays stop) = stays stop

  -- the row of a value terminal, and then the value at its fallthrough
  pub row_then_value : {handler : Option BlockId} {terminal last : Terminal} {nested : Nested} {value : Value}
      {span : Option Span} {behind left : Option BlockId} {nested_used arm_used : List BlockId} (is_test : Bool)
      → is_unset nested.id ≡ false → SpellsNested hir env handler terminal nested nested_used
      → SpellsShortArm hir env handler nested.fallthrough
      (if is_test then answers_test env nested.answer value else false) nested.short behind left arm_used
      → CoversNested hir env terminal nested.value nested.short nested.fallthrough
      → CoversValue hir env is_test value behind nested.fallthrough last → (events : List Event) (progress : Progress)
      → RunsRows env is_test (Row nested.id (Some nested.answer) nested.value span NoRows) value events progress
      → Covers hir env left (GraphRun hir env [] terminal) (GraphRun hir env [] last) events progress
  row_then_value is_test set spelled arm nesteds values events progress (past_row (unset_row u) past rest e) =
      absurd (let bad : ⊥ = cc in bad)
  row_then_value {nested = nested} {value} is_test set spelled arm nesteds values events progress
      (past_row {second = second} (set_row s one) past (past_rows run) e) =
      let answers = answers_test env nested.answer value in
      covers_then
      (past_nested arm (λ alternate is_short. row_of_test is_test value spelled is_short) (nesteds _ _ one) past)
      (reopen (left_behind arm) (λ holds short. answer_ends nested.answer value (if_holds is_test answers holds)
      (subst (RunsValue env is_test value second) short run)) (values _ _ run)) e
  row_then_value is_test set spelled arm nesteds values events progress (in_row (unset_row u) out) =
      absurd (let bad : ⊥ = cc in bad)
  row_then_value {value = value} is_test set spelled arm nesteds values events progress (in_row (set_row s one) out) =
      out_of_nested arm (λ alternate is_short. row_of_test is_test value spelled is_short) (nesteds _ _ one) out

  -- the rows of a block in a sequence, and what represents its last rows
  pub sequence_covered : {is_test : Bool} {left : Option BlockId} {terminal : Terminal} {more : Rows}
      {id : EvaluationOrder} {value : Value} {after : List Event → End → Type 0} {events : List Event}
      {progress : Progress} (rows : List Instruction) → ((events : List Event) (progress : Progress)
      → RunsRows env is_test more value events progress
      → Covers hir env left (GraphRun hir env [] terminal) after events progress)
      → RunsValue env is_test (Sequence (rows_then rows more) id value) events progress
      → Covers hir env left (GraphRun hir env rows terminal) after events progress
  sequence_covered rows tail value_stopped = stays stopped
  sequence_covered {left = left} {terminal} {after = after} {events} {progress} rows tail (in_sequence run) =
      subst (λ l. Covers hir env left (GraphRun hir env l terminal) after events progress) (append-nil rows)
      (rows_covered rows [] tail run)
