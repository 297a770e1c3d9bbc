-- Each step of the walk leaves less to do.
use Rattle.std.proofs.Common.{◌≡◌, ◌∙◌, ◌+◌, ◌<◌, ◌≤◌, ◌++◌, ℕ, zero, suc, Bool, true, false, List, [], ◌∷◌, Option}
use Rattle.std.proofs.Common.{Some, None, ap, arith, if◌then◌else◌, length, refl, subst, sym}
use Rattle.std.specs.Prelude.{map, option_map, slice_get, slice_set, sum_by}
use Rattle.std.proofs.lemmas.List.Sums.{sum_by-append}
use Rattle.std.proofs.lemmas.Option.{slice_get_within, slice_get-map}
use Rattle.rc_names.specs.Numbers.{DeclarationId, ScopeId}
use Rattle.rc_memo.specs.RowRecord.{operands_at}
use Rattle.rc_memo.specs.declared.row_record.RowNode.{RowNode}
use Rattle.rc_memo.specs.declared.row_record.RowRecord.{RowRecord}
use Rattle.rc_escape.specs.declared.walk_state.WalkState.{WalkState}
use Rattle.rc_escape.specs.declared.walk_state.VisitFrame.{VisitFrame}
use Rattle.rc_escape.specs.declared.walk_state.VisitFrame.TheVariants.{Escaping, Dependencies, Scopes}
use Rattle.rc_escape.specs.declared.walk_state.VisitFrame.TheVariants.{ScopeDependencies}
use Rattle.rc_escape.specs.declared.walk_state.NodeMark.TheVariants.{Unseen, Seen, Memoized}
use Rattle.rc_escape.specs.inside.WalkPlaces.{entry_or, is_set, says_seen}
use Rattle.rc_escape.specs.inside.WalkFrames.{FitsRecord, passed_of}
use Rattle.rc_escape.specs.inside.WalkWork.{open_costs, operands_left, node_cost, scope_cost}
use Rattle.rc_escape.specs.inside.WalkWork.{dependencies_left, scopes_left, names_left, steps_left, work}

pub work-push : (r : RowRecord) (s : WalkState) (old new : List VisitFrame) (f : VisitFrame) → new ≡ old ++ f ∷ []
    → work r s new ≡ work r s old + steps_left r f
unfolding work
work-push r s old new f e = let k = ap (sum_by (steps_left r)) e ∙ sum_by-append (steps_left r) old (f ∷ []) in
    omega (arith, k)

-- an entry that is done takes its cost away
open_costs-set : {X : Type 0} (is_done : X → Bool) (d v : X) (xs : List X) (costs : List ℕ) (p k : ℕ)
    → is_done (entry_or d xs p) ≡ false → is_done v ≡ true → p < length xs → slice_get costs p ≡ Some k
    → open_costs is_done (slice_set xs p v) costs + k ≡ open_costs is_done xs costs
open_costs-set is_done d v [] costs p k undone done lt e = absurd (omega (arith, lt))
open_costs-set is_done d v (x ∷ xs) [] p k undone done lt e = cc
open_costs-set is_done d v (x ∷ xs) (c ∷ cs) zero k undone done lt e =
    let f : c ≡ k = cc in
    let before = ap (λ b. if b then 0 else c) undone in
    let after = ap (λ b. if b then 0 else c) done in omega (arith, f, before, after)
open_costs-set is_done d v (x ∷ xs) (c ∷ cs) (suc p) k undone done lt e =
    let f = open_costs-set is_done d v xs cs p k undone done (omega (arith, lt)) e in omega (arith, f)

-- an entry that is done, or isn't, as before
open_costs-same : {X : Type 0} (is_done : X → Bool) (d v : X) (xs : List X) (costs : List ℕ) (p : ℕ)
    → is_done v ≡ true → open_costs is_done (slice_set xs p v) costs ≤ open_costs is_done xs costs
open_costs-same is_done d v [] costs p done = omega arith
open_costs-same is_done d v (x ∷ xs) [] zero done = omega arith
open_costs-same is_done d v (x ∷ xs) [] (suc p) done = omega arith
open_costs-same is_done d v (x ∷ xs) (c ∷ cs) zero done =
    let after = ap (λ b. if b then 0 else c) done in omega (arith, after)
open_costs-same is_done d v (x ∷ xs) (c ∷ cs) (suc p) done =
    let f = open_costs-same is_done d v xs cs p done in omega (arith, f)

-- one more operand of a row is passed
pub operands_left-next : (counts : List ℕ) (operands : List (List DeclarationId)) (row : ℕ) (x : DeclarationId)
    → row < length counts → slice_get (operands_at operands row) (entry_or 0 counts row) ≡ Some x
    → operands_left (slice_set counts row (entry_or 0 counts row + 1)) operands + 1 ≡ operands_left counts operands
operands_left-next [] operands row x lt at = absurd (omega (arith, lt))
operands_left-next (c ∷ cs) [] row x lt at = cc
operands_left-next (c ∷ cs) (o ∷ os) zero x lt at = omega (arith, slice_get_within o c x at)
operands_left-next (c ∷ cs) (o ∷ os) (suc row) x lt at =
    let f = operands_left-next cs os row x (omega (arith, lt)) at in omega (arith, f)

-- a row that has an operand is one of the record
pub operands_within : (operands : List (List DeclarationId)) (row i : ℕ) (x : DeclarationId)
    → slice_get (operands_at operands row) i ≡ Some x → row < length operands
operands_within [] row i x at = cc
operands_within (o ∷ os) zero i x at = omega arith
operands_within (o ∷ os) (suc row) i x at = let f = operands_within os row i x at in omega (arith, f)

module _ (r : RowRecord) where
  -- entering a node takes as much work away as it adds
  pub entered_less : (s : WalkState) (p : ℕ) (d : DeclarationId) (n : RowNode) (f : Bool) (old new : List VisitFrame)
      → FitsRecord r s → slice_get r.nodes p ≡ Some (d, n) → entry_or Unseen s.marks p ≡ Unseen
      → new ≡ old ++ Dependencies p f 0 ∷ []
      → work r (record s { marks = slice_set s.marks p Seen }) new ≤ work r s old
  unfolding work
  entered_less s p d n f old new fits at unseen e =
      let lt : p < length s.marks = omega (arith, slice_get_within r.nodes p (d, n) at, fits.marks) in
      let cost = slice_get-map node_cost r.nodes p ∙ ap (option_map node_cost) at in
      let k = open_costs-set says_seen Unseen Seen s.marks (map node_cost r.nodes) p _ (ap says_seen unseen) refl lt
      cost in
      let a = ap (sum_by (steps_left r)) e ∙ sum_by-append (steps_left r) old (Dependencies p f 0 ∷ []) in
      let b = ap (λ w. dependencies_left w 0) at in
      omega (arith, k, a, b)

  pub taken_less : (s : WalkState) (q : ℕ) (c : ScopeId) (ds : List DeclarationId) (old new : List VisitFrame)
      → FitsRecord r s → slice_get r.scopes q ≡ Some (c, ds) → is_set s.taken q ≡ false
      → new ≡ old ++ ScopeDependencies q 0 ∷ []
      → work r (record s { taken = slice_set s.taken q true }) new ≤ work r s old
  unfolding work is_set
  taken_less s q c ds old new fits at untaken e =
      let lt : q < length s.taken = omega (arith, slice_get_within r.scopes q (c, ds) at, fits.taken) in
      let cost = slice_get-map scope_cost r.scopes q ∙ ap (option_map scope_cost) at in
      let k = open_costs-set (λ bit. bit) false true s.taken (map scope_cost r.scopes) q _ untaken refl lt cost in
      let a = ap (sum_by (steps_left r)) e ∙ sum_by-append (steps_left r) old (ScopeDependencies q 0 ∷ []) in
      let b = ap (λ w. names_left w 0) at in
      omega (arith, k, a, b)

  pub decided_less : (s t : WalkState) (p : ℕ) (d : DeclarationId) (n : RowNode) (old new : List VisitFrame)
      → slice_get r.nodes p ≡ Some (d, n) → t.marks ≡ slice_set s.marks p Memoized → t.taken ≡ s.taken
      → t.passed ≡ s.passed → new ≡ old ++ Scopes p 0 ∷ []
      → work r t new < work r s old + (length n.scopes + 2)
  unfolding work
  decided_less s t p d n old new at marks taken passed e =
      let costs = map node_cost r.nodes in
      let k = open_costs-same says_seen Unseen Memoized s.marks costs p refl in
      let m = ap (λ w. open_costs says_seen w costs) marks in
      let c = ap (λ w. open_costs (λ bit. bit) w (map scope_cost r.scopes)) taken in
      let o = ap (λ w. operands_left w r.operands) passed in
      let a = ap (sum_by (steps_left r)) e ∙ sum_by-append (steps_left r) old (Scopes p 0 ∷ []) in
      let b = ap (λ w. scopes_left w 0) at in
      omega (arith, k, m, c, o, a, b)

  pub undecided_less : (s : WalkState) (n : RowNode) (old : List VisitFrame)
      → work r s old < work r s old + (length n.scopes + 2)
  undecided_less s n old = omega arith

  -- an operand that its row has passed is one step less
  pub passed_less : (s0 s : WalkState) (row j : ℕ) (d : DeclarationId) (frames : List VisitFrame) (most : ℕ)
      → FitsRecord r s → s.passed ≡ s0.passed → slice_get (operands_at r.operands row) (passed_of s0 row) ≡ Some d
      → j ≡ passed_of s0 row + 1 → work r s frames ≤ most
      → work r (record s { passed = slice_set s.passed row j }) frames < most
  unfolding work
  passed_less s0 s row j d frames most fits same at next le =
      let within = operands_within r.operands row (passed_of s0 row) d at in
      let lt : row < length s.passed = omega (arith, fits.passed, within) in
      let here = subst (λ w. slice_get (operands_at r.operands row) (entry_or 0 w row) ≡ Some d) (sym same) at in
      let k = operands_left-next s.passed r.operands row d lt here in
      let count = ap (λ w. entry_or 0 w row + 1) same in
      let m = ap (λ w. operands_left (slice_set s.passed row w) r.operands) (next ∙ sym count) in
      omega (arith, k, m, le)

  -- a frame that goes on has less left
  pub escaping_less : (i j : ℕ) (d : DeclarationId) (s : WalkState) (old mid : List VisitFrame) (w : ℕ)
      → slice_get r.escaping i ≡ Some d → j ≡ i + 1 → mid ≡ old ++ Escaping j ∷ []
      → w ≤ work r s mid → w < work r s old + steps_left r (Escaping i)
  escaping_less i j d s old mid w h e push le =
      omega (arith, slice_get_within r.escaping i d h, work-push r s old mid (Escaping j) push)

  pub row_less : (p i : ℕ) (f : Bool) (s : WalkState) (old mid : List VisitFrame) (w : ℕ)
      → mid ≡ old ++ Dependencies p f i ∷ []
      → w < work r s mid → w < work r s old + steps_left r (Dependencies p f i)
  row_less p i f s old mid w push le = omega (arith, le, work-push r s old mid (Dependencies p f i) push)

  pub dependencies_less : (p i j : ℕ) (k : DeclarationId) (n : RowNode) (row : ℕ) (f : Bool)
      (s : WalkState) (old mid : List VisitFrame) → slice_get r.nodes p ≡ Some (k, n)
      → slice_get n.rows i ≡ Some row → j ≡ i + 1 → mid ≡ old ++ Dependencies p f j ∷ []
      → work r s mid < work r s old + steps_left r (Dependencies p f i)
  dependencies_less p i j k n row f s old mid at h e push =
      omega (
        arith,
        slice_get_within n.rows i row h,
        work-push r s old mid (Dependencies p f j) push,
        ap
            (λ x. dependencies_left x j) at,
        ap (λ x. dependencies_left x i) at,
      )

  pub scopes_less : (p i j : ℕ) (k : DeclarationId) (n : RowNode) (c : ScopeId) (s : WalkState)
      (old mid : List VisitFrame) (w : ℕ) → slice_get r.nodes p ≡ Some (k, n) → slice_get n.scopes i ≡ Some c
      → j ≡ i + 1 → mid ≡ old ++ Scopes p j ∷ []
      → w ≤ work r s mid → w < work r s old + steps_left r (Scopes p i)
  scopes_less p i j k n c s old mid w at h e push le =
      omega (
        arith,
        slice_get_within n.scopes i c h,
        work-push r s old mid (Scopes p j) push,
        ap
            (λ x. scopes_left x j) at,
        ap (λ x. scopes_left x i) at,
      )

  pub names_less : (q i j : ℕ) (k : ScopeId) (ds : List DeclarationId) (d : DeclarationId) (s : WalkState)
      (old mid : List VisitFrame) (w : ℕ) → slice_get r.scopes q ≡ Some (k, ds) → slice_get ds i ≡ Some d
      → j ≡ i + 1 → mid ≡ old ++ ScopeDependencies q j ∷ []
      → w ≤ work r s mid → w < work r s old + steps_left r (ScopeDependencies q i)
  names_less q i j k ds d s old mid w at h e push le =
      omega (
        arith,
        slice_get_within ds i d h,
        work-push r s old mid (ScopeDependencies q j) push,
        ap
            (λ x. names_left x j) at,
        ap (λ x. names_left x i) at,
      )

  -- a frame that ends has at least one step left
  pub steps_left_some : (f : VisitFrame) → 0 < steps_left r f
  steps_left_some (Escaping i) = omega arith
  steps_left_some (Dependencies p f i) = go (slice_get r.nodes p)
    where
      go : (o : Option (DeclarationId × RowNode)) → 0 < dependencies_left o i
      go None = omega arith
      go (Some e) = omega arith
  steps_left_some (Scopes p i) = go (slice_get r.nodes p)
    where
      go : (o : Option (DeclarationId × RowNode)) → 0 < scopes_left o i
      go None = omega arith
      go (Some e) = omega arith
  steps_left_some (ScopeDependencies q i) = go (slice_get r.scopes q)
    where
      go : (o : Option (ScopeId × List DeclarationId)) → 0 < names_left o i
      go None = omega arith
      go (Some e) = omega arith

  -- the last steps of a node's dependencies are those of its decision
  pub dependencies_last : (p i : ℕ) (k : DeclarationId) (n : RowNode) → slice_get r.nodes p ≡ Some (k, n)
      → length n.scopes + 2 ≤ dependencies_left (slice_get r.nodes p) i
  dependencies_last p i k n at = omega (arith, ap (λ x. dependencies_left x i) at)
