-- The walk over a memo record has one end, so which names are memoized is determined by the record.
use Rattle.std.proofs.Common.{◌≡◌, ◌∙◌, Bool, true, false, List, refl, subst, sym}
use Rattle.std.specs.Prelude.{◌||◌}
use Rattle.rc_names.specs.Numbers.{DeclarationId, ScopeId, is_among}
use Rattle.rc_memo.specs.declared.record.MemoNode.{MemoNode}
use Rattle.rc_memo.specs.declared.record.MemoRecord.{MemoRecord}
use Rattle.rc_escape.specs.MemoSet.{IsMemoSet}
use Rattle.rc_escape.specs.MemoWalk.{Progress, memoizes, with_seen, with_taken}
use Rattle.rc_escape.specs.MemoWalk.{VisitsName, absent, again, first_time, VisitsNames, no_names, next_name}
use Rattle.rc_escape.specs.MemoWalk.{DecidesNode, passes, memoizes_it}
use Rattle.rc_escape.specs.MemoWalk.{TakesScopes, no_scopes, without_record, taken_before, takes_it}
use Rattle.rc_escape.proofs.ListLemmas.{one_value}

module _ {r : MemoRecord} where
  mutual
    -- two visits of a name from one start have one end, and one answer
    one_visit : {name : DeclarationId} {forced answer answer1 : Bool} {met end end1 : Progress}
        → VisitsName r name forced met end answer → VisitsName r name forced met end1 answer1
        → (end ≡ end1) × (answer ≡ answer1)
    one_visit (absent none) (absent none1) = (refl, refl)
    one_visit (absent none) (again found seen is) = cc
    one_visit (absent none) (first_time found unseen visits is decides) = cc
    one_visit (again found seen is) (absent none) = cc
    one_visit (again found seen is) (again found1 seen1 is1) = (refl, is ∙ sym is1)
    one_visit (again found seen is) (first_time found1 unseen visits is1 decides) = cc
    one_visit (first_time found unseen visits is decides) (absent none) = cc
    one_visit (first_time found unseen visits is decides) (again found1 seen is1) = cc
    one_visit {name} {forced} {answer} {answer1} {met} {end} {end1 = end1}
        (first_time {node = node} {visited = visited} found unseen visits is decides)
        (first_time {node = node1} {needs_one = needs_one1} {visited = visited1} found1 unseen1 visits1 is1 decides1) =
        let same : node1 ≡ node = one_value found found1 in
        let inner = one_visits visits
        (subst (λ (n : MemoNode). VisitsNames r n.dependencies false (with_seen met name) visited1 needs_one1) same
        visits1) in
        let decided : answer ≡ answer1 = is ∙ (λ i. memoizes (sym same i).level forced (inner.1 i)) ∙ sym is1 in
        let start : ◌≡◌ {A = MemoNode × Bool × Progress} (node1, answer1, visited1) (node, answer, visited) =
        λ i. (same i, sym decided i, sym inner.0 i) in (
          one_decision decides
              (subst (λ (c : MemoNode × Bool × Progress). DecidesNode r name c.0 c.1 c.2 end1) start decides1),
          decided,
        )

    one_visits : {names : List DeclarationId} {forced answer answer1 : Bool} {met end end1 : Progress}
        → VisitsNames r names forced met end answer → VisitsNames r names forced met end1 answer1
        → (end ≡ end1) × (answer ≡ answer1)
    one_visits no_names no_names = (refl, refl)
    one_visits {forced = forced} {end1 = end1} (next_name {names = names} visit visits is)
        (next_name {rest = rest1} visit1 visits1 is1) =
        let first = one_visit visit visit1 in
        let rest = one_visits visits
        (subst (λ met. VisitsNames r names forced met end1 rest1) (sym first.0) visits1) in
        (rest.0, is ∙ (λ i. first.1 i || rest.1 i) ∙ sym is1)

    one_decision : {name : DeclarationId} {node : MemoNode} {answer : Bool} {met end end1 : Progress}
        → DecidesNode r name node answer met end → DecidesNode r name node answer met end1 → end ≡ end1
    one_decision passes passes = refl
    one_decision (memoizes_it takes) (memoizes_it takes1) = one_taking takes takes1

    one_taking : {scopes : List ScopeId} {met end end1 : Progress} → TakesScopes r scopes met end
        → TakesScopes r scopes met end1 → end ≡ end1
    one_taking no_scopes no_scopes = refl
    one_taking (without_record none rest) (without_record none1 rest1) = one_taking rest rest1
    one_taking (without_record none rest) (taken_before found taken rest1) = cc
    one_taking (without_record none rest) (takes_it found untaken visits rest1) = cc
    one_taking (taken_before found taken rest) (without_record none rest1) = cc
    one_taking (taken_before found taken rest) (taken_before found1 taken1 rest1) = one_taking rest rest1
    one_taking (taken_before found taken rest) (takes_it found1 untaken visits rest1) = cc
    one_taking (takes_it found untaken visits rest) (without_record none rest1) = cc
    one_taking (takes_it found untaken visits rest) (taken_before found1 taken rest1) = cc
    one_taking {met = met} {end1 = end1} (takes_it {scope = scope} {scopes = scopes} found untaken visits rest)
        (takes_it {answer = answer1} {visited = visited1} found1 untaken1 visits1 rest1) =
        let inner = one_visits visits
        (subst (λ names. VisitsNames r names true (with_taken met scope) visited1 answer1) (one_value found found1)
        visits1) in
        one_taking rest (subst (λ met. TakesScopes r scopes met end1) (sym inner.0) rest1)

-- two sets of the memoized names of a record have the same names
pub same_names : {first second : MemoRecord} {set set1 : List DeclarationId} → first ≡ second → IsMemoSet first set
    → IsMemoSet second set1 → (name : DeclarationId) → is_among set name ≡ is_among set1 name
same_names {set1 = set1} same a other name =
    let b = subst (λ r. IsMemoSet r set1) (sym same) other in
    let ends = one_visits a.walked.visits b.walked.visits in
    a.names name ∙ (λ i. (ends.0 i).memoized name) ∙ sym (b.names name)
