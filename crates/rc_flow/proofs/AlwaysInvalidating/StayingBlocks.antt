-- Where scope blocks become pruned ones by one answer for each, exactly those stay whose answer is false.
use Rattle.std.proofs.Common.{◌≡◌, ◌∙◌, ◌+◌, Bool, true, false, List, [], ◌∷◌, ◌++◌, Result, Ok, Err, arith, drop, refl}
use Rattle.std.proofs.Common.{sym, ap, subst, if◌then◌else◌}
use Rattle.std.specs.Prelude.{IfOk}
use Rattle.rc_hir.specs.Model.{Fault}
use Rattle.rc_names.specs.Numbers.{ScopeId, times}
use Rattle.rc_tree.proofs.AloneLemmas.{alone-Scope, alone-PrunedScope}
use Rattle.rc_tree.proofs.JoiningLemmas.{lists_monoid}
use Rattle.rc_tree.proofs.RebuiltHolds.{and_then, having, having_same}
use Rattle.rc_tree.proofs.ScopeRulesHold.{LeavesOthers, HoldsOfScopes, rebuilt_holds_of_scopes}
use Rattle.rc_tree.specs.Collected.{collected_list}
use Rattle.rc_tree.specs.Pruned.{as_pruned}
use Rattle.rc_tree.specs.Rebuilt.{Rebuilds}
use Rattle.rc_tree.specs.ScopesIn.{scope_parts, scopes_in}
use Rattle.rc_tree.specs.Step.{bind}
use Rattle.rc_tree.specs.Model.{ReactiveScopeBlock, ReactiveBlock}
use Rattle.rc_flow.specs.AlwaysInvalidating.{dropped_scopes, dropping_rules, first_answer, pruned_if, IsRebuiltBy}

abbrev Scopes : Type 0
Scopes = List ScopeId

abbrev Answers : Type 0
Answers = List Bool

-- a list with one scope more, unless its block is dropped
abbrev with_left : Bool → ScopeId → Scopes → Scopes
with_left dropped scope rest = if dropped then rest else scope ∷ rest

-- the scopes whose blocks stay by the answers, and the answers after theirs
abbrev pub staying : Scopes → Answers → Scopes
staying [] answers = []
staying (scope ∷ scopes) answers = with_left (first_answer answers) scope (staying scopes (drop 1 answers))

abbrev after : Scopes → Answers → Answers
after [] answers = answers
after (scope ∷ scopes) answers = after scopes (drop 1 answers)

after-append : (xs ys : Scopes) (answers : Answers) → after (xs ++ ys) answers ≡ after ys (after xs answers)
after-append [] ys answers = refl
after-append (x ∷ xs) ys answers = after-append xs ys (drop 1 answers)

with_left-append : (dropped : Bool) (scope : ScopeId) (xs ys : Scopes)
    → with_left dropped scope (xs ++ ys) ≡ with_left dropped scope xs ++ ys
with_left-append true scope xs ys = refl
with_left-append false scope xs ys = refl

staying-append : (xs ys : Scopes) (answers : Answers)
    → staying (xs ++ ys) answers ≡ staying xs answers ++ staying ys (after xs answers)
staying-append [] ys answers = refl
staying-append (x ∷ xs) ys answers =
    ap (with_left (first_answer answers) x) (staying-append xs ys (drop 1 answers))
    ∙ with_left-append (first_answer answers) x (staying xs (drop 1 answers)) (staying ys (after xs (drop 1 answers)))

-- each block stays or is dropped
pub stays_or_dropped : (scope : ScopeId) (scopes : Scopes) (answers : Answers)
    → times scope scopes ≡ times scope (staying scopes answers) + times scope (dropped_scopes scopes answers)
stays_or_dropped scope [] answers = refl
stays_or_dropped scope (x ∷ xs) answers =
    by (staying xs (drop 1 answers)) (dropped_scopes xs (drop 1 answers)) (first_answer answers)
    (stays_or_dropped scope xs (drop 1 answers))
  where
    by : (stays goes : Scopes) (dropped : Bool) → times scope xs ≡ times scope stays + times scope goes
        → times scope (x ∷ xs)
        ≡ times scope (with_left dropped x stays) + times scope (if dropped then x ∷ goes else goes)
    by stays goes true rest = omega (arith, rest)
    by stays goes false rest = omega (arith, rest)

-- of a part that held `before` and is rebuilt by answers: the answers after it, and what it holds
unfoldable Stays : Scopes → Answers → Result (Answers × Scopes) Fault → Type 0
Stays before answers (Ok r) = (r.0 ≡ after before answers) × (r.1 ≡ staying before answers)
Stays before answers (Err fault) = Unit {0}

leaves_others : LeavesOthers dropping_rules
leaves_others = record {
  row = λ x s. refl;
  terminal = λ x s. refl;
  pruned_scope = λ x s. refl;
  block = λ xs s. refl;
}

-- what a judged scope block holds
judged : (dropped : Bool) (block : ReactiveScopeBlock) → collected_list scope_parts (pruned_if dropped block ∷ [])
    ≡ scopes_in block.instructions ++ with_left dropped block.scope []
judged true block = alone-PrunedScope scope_parts lists_monoid (as_pruned block)
    ∙ sym (lists_monoid.behind (scopes_in block.instructions))
judged false block = alone-Scope scope_parts lists_monoid block

-- a part without scope blocks
nothing_stays : (answers : Answers) → Stays [] answers (Ok (answers, []))
unfolding Stays
nothing_stays answers = (refl, refl)

both_stay : (x y : Scopes) (answers : Answers) (first : Result (Answers × Scopes) Fault)
    (next : Rebuilds Answers Scopes) → Stays x answers first → IfOk first (λ c. Stays y c.0 (next c.0))
    → Stays (x ++ y) answers (and_then (λ a b. a ++ b) first next)
unfolding Stays
both_stay x y answers (Err fault) next h k = tt
both_stay x y answers (Ok c) next h k = by (next c.0) k
  where
    by : (e : Result (Answers × Scopes) Fault) → Stays y c.0 e
        → Stays (x ++ y) answers (having (λ b. c.1 ++ b) e)
    by (Err fault) j = tt
    by (Ok d) j = (
      j.0 ∙ ap (after y) h.0 ∙ sym (after-append x y answers),
      (λ i. h.1 i ++ j.1 i) ∙ ap (λ s. staying x answers ++ staying y s) h.0 ∙ sym (staying-append x y answers),
    )

scope_stays : (x : Scopes) (of : ScopeId) (answers : Answers) (inside : Result (Answers × ReactiveBlock) Fault)
    → Stays x answers (having scopes_in inside)
    → Stays (x ++ of ∷ []) answers (having (collected_list scope_parts)
    (bind inside (λ c. dropping_rules.scope answers (record { scope = of; instructions = c.1 }) c.0)))
unfolding Stays
scope_stays x of answers (Err fault) h = tt
scope_stays x of answers (Ok c) h = (
  ap (drop 1) h.0 ∙ sym (after-append x (of ∷ []) answers),
  judged (first_answer c.0) (record { scope = of; instructions = c.1 })
      ∙ (λ i. h.1 i ++ with_left (first_answer (h.0 i)) of []) ∙ sym (staying-append x (of ∷ []) answers),
)

stays : HoldsOfScopes dropping_rules Stays scope_parts scope_parts
stays = record {
  nothing = nothing_stays;
  both = both_stay;
  row = λ x. nothing_stays;
  value = λ id x. nothing_stays;
  place = λ id x. nothing_stays;
  returned = λ id x. nothing_stays;
  jump = λ target. nothing_stays;
  label = λ label. nothing_stays;
  pruned_scope = λ x of answers inside. subst (Stays x answers) (sym (having_same inside));
  scope = scope_stays;
}

-- the scopes of the blocks that stay
pub rebuilt_staying : (answers : List Bool) (before after : ReactiveBlock) → IsRebuiltBy answers before after
    → scopes_in after ≡ staying (scopes_in before) answers
unfolding Stays
rebuilt_staying answers before after is =
    (subst (λ e. Stays (scopes_in before) answers (having scopes_in e)) is.rebuilt
    (rebuilt_holds_of_scopes dropping_rules Stays scope_parts scope_parts lists_monoid leaves_others stays before
    answers)).1
