-- Used blocks: what one more mark keeps, and how often blocks are referred to.
use Rattle.std.proofs.Common.{◌≡◌, ◌≤◌, ◌+◌, Bool, true, false, cond, List, [], ◌∷◌, ◌++◌, Some, ◌||◌, length, refl}
use Rattle.std.proofs.Common.{sym, ap, ◌∙◌, subst, arith, inl, inr}
use Rattle.std.specs.Prelude.{if◌then◌else◌, ◌⊎◌, slice_get}
use Rattle.std.specs.List.{IsDistinct, filter_map, flat_map, AllByRecursion}
use Rattle.std.specs.Map.{lookup}
use Rattle.std.proofs.Math.Bool.{or-true}
use Rattle.std.proofs.lemmas.Bool.{or_cases, or_left, or_right}
use Rattle.std.proofs.lemmas.Map.Steps.{length-le_from_keys}
use Rattle.std.proofs.lemmas.Map.Views.{Contains-from_any, list_any-from_Contains}
use Rattle.std.proofs.lemmas.List.Elements.{filter_map-append}
use Rattle.std.proofs.lemmas.List.Folds.{list_any-append}
use Rattle.rc_names.specs.Numbers.{BlockId, same_id, is_among, times}
use Rattle.rc_hir.specs.Model.{BasicBlock, HirFunction}
use Rattle.rc_build.specs.declared.builder.Marks.{Marks}
use Rattle.rc_runs.specs.Graph.{basic_block}
use Rattle.rc_runs.specs.Spelled.{AreSound, scope_at}
use Rattle.rc_build.specs.References.{referenced_blocks}
use Rattle.rc_build.specs.BlockFacts.{times_referenced}
use Rattle.rc_names.proofs.NumbersLemmas.{ids_equivalence, same_id-eq}
use Rattle.rc_build.specs.inside.CanBuild.{AreMarked, AreReferenced, references_of}

-- there is room for a block that isn't used
pub room : (hir : HirFunction) (marks : Marks) → AreMarked hir marks → length marks.used ≤ length hir.body.blocks
room hir marks m = length-le_from_keys ids_equivalence marks.used hir.body.blocks m.sound.distinct m.known

module _ (P : BlockId → Type 0) where
  -- what holds of the used blocks and of one more
  pub one_more : (used : List BlockId) (key : BlockId) → ((q : BlockId) → is_among used q ≡ true → P q) → P key
      → (q : BlockId) → is_among (used ++ key ∷ []) q ≡ true → P q
  one_more used key f p q h =
      go (is_among used q) (same_id q key) refl refl (sym (list_any-append (same_id q) used (key ∷ [])) ∙ h)
    where
      go : (a b : Bool) → is_among used q ≡ a → same_id q key ≡ b → (a || (b || false)) ≡ true → P q
      go true b e r h = f q e
      go false true e r h = subst P (sym (same_id-eq q key r)) p
      go false false e r h = let bad : ⊥ = cc in absurd bad

-- the front of sound blocks is sound
front_all : {K : Type 0} (P : K → Type 0) (xs ys : List K) → AllByRecursion P (xs ++ ys) → AllByRecursion P xs
front_all P [] ys h = tt
front_all P (x ∷ xs) ys h = (h.0, front_all P xs ys h.1)

front_distinct : {K : Type 0} (eq : K → K → Bool) (xs ys : List K) → IsDistinct eq (xs ++ ys) → IsDistinct eq xs
unfolding IsDistinct
front_distinct eq [] ys h = tt
front_distinct eq (x ∷ xs) ys h = (front_all _ xs ys h.0, front_distinct eq xs ys h.1)

-- a block is one of two lists' where it is one of either's
pub among_front : (xs ys : List BlockId) (q : BlockId) → is_among xs q ≡ true → is_among (xs ++ ys) q ≡ true
among_front xs ys q h = list_any-append (same_id q) xs ys ∙ or_left (is_among xs q) (is_among ys q) h

pub among_back : (xs ys : List BlockId) (q : BlockId) → is_among ys q ≡ true → is_among (xs ++ ys) q ≡ true
among_back xs ys q h = list_any-append (same_id q) xs ys ∙ or_right (is_among xs q) (is_among ys q) h

pub among_parts : (xs ys : List BlockId) (q : BlockId) → is_among (xs ++ ys) q ≡ true
    → (is_among xs q ≡ true) ⊎ (is_among ys q ≡ true)
among_parts xs ys q h = or_cases (is_among xs q) (is_among ys q) (sym (list_any-append (same_id q) xs ys) ∙ h)

-- the first block
pub first_among : (blocks : List BlockId) (block : BlockId) → slice_get blocks 0 ≡ Some block
    → is_among blocks block ≡ true
first_among [] block e = let bad : ⊥ = cc in absurd bad
first_among (first ∷ blocks) block e =
    let same : first ≡ block = cc in
    or_left (same_id block first) (is_among blocks block) (subst (λ z. same_id block z ≡ true) (sym same)
    (ids_equivalence.refl block))

-- the only block
pub among_alone : (block key : BlockId) → same_id block key ≡ true → is_among (block ∷ []) key ≡ true
among_alone block key e = ap (λ b. b || false) (ids_equivalence.symm key block ∙ e)

pub alone_same : (block key : BlockId) → is_among (block ∷ []) key ≡ true → same_id block key ≡ true
alone_same block key h = go (or_cases (same_id key block) false h)
  where
    go : (same_id key block ≡ true) ⊎ (false ≡ true) → same_id block key ≡ true
    go (inl e) = ids_equivalence.symm block key ∙ e
    go (inr e) = let bad : ⊥ = cc in absurd bad

-- a block of the same number is among the blocks too
pub among_same : (blocks : List BlockId) (block key : BlockId) → is_among blocks block ≡ true
    → same_id block key ≡ true → is_among blocks key ≡ true
among_same blocks block key h e = subst (λ z. is_among blocks z ≡ true) (same_id-eq block key e) h

pub front_sound : (hir : HirFunction) (xs ys : List BlockId) → AreSound hir (xs ++ ys) → AreSound hir xs
front_sound hir xs ys h = record {
  distinct = front_distinct same_id xs ys h.distinct;
  alive = λ key c. h.alive key (Contains-from_any same_id-eq key (xs ++ ys)
      (among_front xs ys key (list_any-from_Contains ids_equivalence key xs c)));
  scopes_once = front_distinct same_id (filter_map (scope_at hir) xs) (filter_map (scope_at hir) ys)
      (subst (IsDistinct same_id) (filter_map-append (scope_at hir) xs ys) h.scopes_once);
}

-- how often a block occurs in two lists
pub times_append : (key : BlockId) (xs ys : List BlockId) → times key (xs ++ ys) ≡ times key xs + times key ys
times_append key [] ys = omega arith
times_append key (x ∷ xs) ys = let h = times_append key xs ys in omega arith

pub times_among : (key : BlockId) (xs : List BlockId) → is_among xs key ≡ true → 1 ≤ times key xs
times_among key [] h = let bad : ⊥ = cc in absurd bad
times_among key (x ∷ xs) h = go (same_id key x) refl h (times_among key xs)
  where
    go : (b : Bool) → same_id key x ≡ b → (b || is_among xs key) ≡ true → (is_among xs key ≡ true → 1 ≤ times key xs)
        → 1 ≤ (if b then 1 else 0) + times key xs
    go true e h f = omega arith
    go false e h f = let k = f h in omega arith

-- the references of the used blocks are references of the graph
if_le : (b : Bool) (key : BlockId) (xs : List BlockId) → times key (if b then xs else []) ≤ times key xs
if_le true key xs = omega arith
if_le false key xs = omega arith

flat_le : (used : List BlockId) (key : BlockId) (blocks : List (BlockId × BasicBlock)) →
    times key (flat_map (λ pair. if is_among used pair.0 then referenced_blocks pair.1.terminal else []) blocks) ≤ times key
    (flat_map (λ pair. referenced_blocks pair.1.terminal) blocks)
flat_le used key [] = omega arith
flat_le used key (pair ∷ blocks) =
    let blocks_of = referenced_blocks pair.1.terminal in
    omega (
      arith,
      flat_le used key blocks,
      if_le (is_among used pair.0) key blocks_of,
      times_append key blocks_of (flat_map (λ p. referenced_blocks p.1.terminal) blocks),
      times_append key (if is_among used pair.0 then blocks_of else [])
          (flat_map (λ p. if is_among used p.0 then referenced_blocks p.1.terminal else []) blocks),
    )

pub references_le : (hir : HirFunction) (used : List BlockId) (key : BlockId)
    → times key (references_of hir used) ≤ times_referenced hir key
references_le hir used key = omega (arith, flat_le used key hir.body.blocks)

-- a block more among the used ones takes no reference away
or_le : (b c : Bool) (key : BlockId) (xs : List BlockId)
    → times key (if b then xs else []) ≤ times key (if b || c then xs else [])
or_le true c key xs = omega arith
or_le false c key xs = omega arith

flat_more : (used : List BlockId) (key q : BlockId) (blocks : List (BlockId × BasicBlock)) →
    times q (flat_map (λ pair. if is_among used pair.0 then referenced_blocks pair.1.terminal else []) blocks)
    ≤ times q (flat_map (λ pair. if is_among (used ++ key ∷ []) pair.0 then referenced_blocks pair.1.terminal else [])
    blocks)
flat_more used key q [] = omega arith
flat_more used key q (pair ∷ blocks) =
    let blocks_of = referenced_blocks pair.1.terminal in
    let head : times q (if is_among used pair.0 then blocks_of else []) ≤ times q
    (if is_among (used ++ key ∷ []) pair.0 then blocks_of else []) =
    subst (λ b. times q (if is_among used pair.0 then blocks_of else []) ≤ times q (if b then blocks_of else []))
    (sym (list_any-append (same_id pair.0) used (key ∷ [])))
    (or_le (is_among used pair.0) (is_among (key ∷ []) pair.0) q blocks_of) in
    omega (
      arith,
      flat_more used key q blocks,
      head,
      times_append q (if is_among used pair.0 then blocks_of else [])
          (flat_map (λ p. if is_among used p.0 then referenced_blocks p.1.terminal else []) blocks),
      times_append q (if is_among (used ++ key ∷ []) pair.0 then blocks_of else [])
          (flat_map (λ p. if is_among (used ++ key ∷ []) p.0 then referenced_blocks p.1.terminal else []) blocks),
    )

pub among_push : (used : List BlockId) (key : BlockId) → is_among (used ++ key ∷ []) key ≡ true
among_push used key = list_any-append (same_id key) used (key ∷ [])
    ∙ ap (λ b. is_among used key || (b || false)) (ids_equivalence.refl key) ∙ or-true (is_among used key)

-- the references of the blocks that are among the used ones
abbrev references_among : List BlockId → List (BlockId × BasicBlock) → List BlockId
references_among used blocks = flat_map (λ pair. if is_among used pair.0 then referenced_blocks pair.1.terminal else []) blocks

push_here : (used : List BlockId) (key q : BlockId) (pair : BlockId × BasicBlock) (blocks : List (BlockId × BasicBlock))
    → is_among used key ≡ false → key ≡ pair.0 →
    times q (referenced_blocks pair.1.terminal) + times q (references_among used (pair ∷ blocks)) ≤ times q
    (references_among (used ++ key ∷ []) (pair ∷ blocks))
push_here used key q pair blocks n here =
    let blocks_of = referenced_blocks pair.1.terminal in
    let old = if is_among used pair.0 then blocks_of else [] in
    let new = if is_among (used ++ key ∷ []) pair.0 then blocks_of else [] in
    let none : old ≡ [] = ap (λ b. if b then blocks_of else []) (ap (is_among used) (sym here) ∙ n) in
    let all : new ≡ blocks_of = ap (λ b. if b then blocks_of else [])
    (ap (is_among (used ++ key ∷ [])) (sym here) ∙ among_push used key) in
    omega (
      arith,
      times_append q old (references_among used blocks),
      times_append q new (references_among (used ++ key ∷ []) blocks),
      ap
          (times q) none,
      ap (times q) all,
      flat_more used key q blocks,
    )

push_past : (used : List BlockId) (key q : BlockId) (block : BasicBlock) (pair : BlockId × BasicBlock)
    (blocks : List (BlockId × BasicBlock)) →
    times q (referenced_blocks block.terminal) + times q (references_among used blocks) ≤ times q
    (references_among (used ++ key ∷ []) blocks) →
    times q (referenced_blocks block.terminal) + times q (references_among used (pair ∷ blocks)) ≤ times q
    (references_among (used ++ key ∷ []) (pair ∷ blocks))
push_past used key q block pair blocks later =
    let blocks_of = referenced_blocks pair.1.terminal in
    let old = if is_among used pair.0 then blocks_of else [] in
    let new = if is_among (used ++ key ∷ []) pair.0 then blocks_of else [] in
    let head : times q old ≤ times q new =
    subst (λ b. times q old ≤ times q (if b then blocks_of else []))
    (sym (list_any-append (same_id pair.0) used (key ∷ [])))
    (or_le (is_among used pair.0) (is_among (key ∷ []) pair.0) q blocks_of) in
    omega (
      arith,
      times_append q old (references_among used blocks),
      times_append q new (references_among (used ++ key ∷ []) blocks),
      head,
      later,
    )

flat_push : (used : List BlockId) (key q : BlockId) (block : BasicBlock) (blocks : List (BlockId × BasicBlock))
    → is_among used key ≡ false → lookup (same_id key) blocks ≡ Some block →
    times q (referenced_blocks block.terminal) + times q (references_among used blocks) ≤ times q
    (references_among (used ++ key ∷ []) blocks)
flat_push used key q block [] n e = let bad : ⊥ = cc in absurd bad
flat_push used key q block (pair ∷ blocks) n e = go (same_id key pair.0) refl e (flat_push used key q block blocks n)
  where
    go : (b : Bool) → same_id key pair.0 ≡ b → cond b (Some pair.1) (lookup (same_id key) blocks) ≡ Some block →
        (lookup (same_id key) blocks ≡ Some block → times q (referenced_blocks block.terminal) + times q
        (references_among used blocks) ≤ times q (references_among (used ++ key ∷ []) blocks)) →
        times q (referenced_blocks block.terminal) + times q (references_among used (pair ∷ blocks)) ≤ times q
        (references_among (used ++ key ∷ []) (pair ∷ blocks))
    go true s h later =
        let same : pair.1 ≡ block = cc in
        subst (λ (z : BasicBlock). times q (referenced_blocks z.terminal) + times q (references_among used (pair ∷ blocks)) ≤ times q
        (references_among (used ++ key ∷ []) (pair ∷ blocks))) same
        (push_here used key q pair blocks n (same_id-eq key pair.0 s))
    go false s h later = push_past used key q block pair blocks (later h)

-- a marked block is no longer pending, and the blocks that its terminal refers to are
pub referenced_push : (hir : HirFunction) (used : List BlockId) (key : BlockId) (block : BasicBlock) (pending : List BlockId)
    → is_among used key ≡ false → basic_block hir key ≡ Some block →
    AreReferenced hir used (key ∷ pending) → AreReferenced hir (used ++ key ∷ []) (referenced_blocks block.terminal ++ pending)
referenced_push hir used key block pending n e h q =
    let blocks_of = referenced_blocks block.terminal in
    omega (
      arith,
      h q,
      flat_push used key q block hir.body.blocks n e,
      times_append q pending used,
      times_append q
          (blocks_of ++ pending) (used ++ key ∷ []),
      times_append q blocks_of pending,
      times_append q used (key ∷ []),
    )

-- fewer blocks are pending
pub referenced_fewer : (hir : HirFunction) (used few many : List BlockId)
    → ((key : BlockId) → times key few ≤ times key many) → AreReferenced hir used many → AreReferenced hir used few
referenced_fewer hir used few many f h key =
    omega (arith, h key, f key, times_append key few used, times_append key many used)

-- a block occurs once in a list of it alone
times_alone : (key : BlockId) → times key (key ∷ []) ≡ 1
times_alone key = ap (λ b. (if b then 1 else 0) + 0) (ids_equivalence.refl key)

-- a block that is pending, and used or pending besides, is referred to twice
pub referenced_twice : (hir : HirFunction) (used : List BlockId) (key : BlockId) (pending : List BlockId)
    → AreReferenced hir used (key ∷ pending) → 1 ≤ times key (pending ++ used) → 2 ≤ times_referenced hir key
referenced_twice hir used key pending h t =
    omega (arith, h key, t, times_alone key, references_le hir used key)

-- a block that is pending is referred to
pub referenced_once : (hir : HirFunction) (used : List BlockId) (key : BlockId) (pending : List BlockId)
    → AreReferenced hir used (key ∷ pending) → 1 ≤ times_referenced hir key
referenced_once hir used key pending h =
    omega (arith, h key, times_alone key, references_le hir used key)
