-- One more used block: the marks stay sound, or no tree may use it.
use Rattle.std.proofs.Common.{◌≡◌, ℕ, Bool, true, false, List, [], ◌∷◌, ◌++◌, Option, Some, None, ◌||◌, refl, sym, ap}
use Rattle.std.proofs.Common.{◌∙◌, subst, inl, inr, true≢false}
use Rattle.std.specs.Cmp.{IsEquivalence}
use Rattle.std.specs.Prelude.{IsSome, is_some, option_and_then, option_map, slice_set, ◌⊎◌}
use Rattle.std.specs.List.{IsDistinct, list_any, filter_map, cons_option, AllByRecursion}
use Rattle.std.proofs.lemmas.Bool.{not-false, not-true, or_right}
use Rattle.std.proofs.lemmas.List.{append-nil}
use Rattle.std.proofs.lemmas.Map.Keys.{IsDistinct-push}
use Rattle.std.proofs.lemmas.Map.Views.{Contains-from_any, list_any-from_Contains}
use Rattle.std.proofs.lemmas.List.Elements.{filter_map-append}
use Rattle.rc_names.specs.Numbers.{BlockId, ScopeId, same_id, is_among}
use Rattle.rc_hir.specs.Model.{Instruction, BasicBlock, HirFunction}
use Rattle.rc_build.specs.declared.builder.Marks.{Marks}
use Rattle.rc_runs.specs.declared.frames.Frame.{Frame}
use Rattle.rc_hir.specs.declared.fault.Rule.TheVariants.{Twice, ScopeTwice}
use Rattle.rc_runs.specs.Frames.{is_jump_target}
use Rattle.rc_runs.specs.Graph.{Block, basic_block, block_at, rows_of, with_rows}
use Rattle.rc_runs.specs.GraphRun.{HasNoUnreachableSuccessor}
use Rattle.rc_runs.specs.Spelled.{scope_named, scope_at}
use Rattle.rc_build.specs.References.{referenced_blocks}
use Rattle.rc_build.specs.BlockFacts.{BlockIs}
use Rattle.rc_build.specs.RuleFacts.{HasUnreachableSuccessor, SharesScope, RuleFact}
use Rattle.rc_build.specs.inside.CanBuild.{AreMarked, AreReferenced, CanBuildList, TellUsed, pending_blocks, place_of}
use Rattle.rc_build.specs.inside.CanBuild.{used_blocks}
use Rattle.std.specs.Option.{option_to_list}
use Rattle.rc_build.specs.inside.Marks.{IsUnusable, MarksBlocks, is_fresh_scope}
use Rattle.rc_names.proofs.NumbersLemmas.{ids_equivalence, same_id-eq}
use Rattle.rc_build.proofs.BitsLemmas.{one_more_told}
use Rattle.rc_build.proofs.MarksLemmas.{times_among, referenced_twice, one_more, among_push, among_front, among_back}
use Rattle.rc_build.proofs.MarksLemmas.{referenced_push}
use Rattle.rc_build.proofs.OwnersLemmas.{pending_or_used}
use Rattle.rc_build.proofs.UsableLemmas.{filled, found_terminal, found_block}

listed_option : (scope : Option ScopeId) → cons_option scope [] ≡ option_to_list scope
listed_option None = refl
listed_option (Some scope) = refl

scope_of : (hir : HirFunction) (key : BlockId) (block : BasicBlock) (rows : List Instruction)
    → basic_block hir key ≡ Some block → rows_of hir.instructions block.instructions ≡ Some rows →
    scope_at hir key ≡ scope_named block.terminal
scope_of hir key block rows e f =
    ap (λ b. option_and_then (λ (z : Block). scope_named z.terminal) b) (found_block hir key block rows e f)

scopes_push : (hir : HirFunction) (used : List BlockId) (key : BlockId) (scope : Option ScopeId)
    → scope_at hir key ≡ scope →
    filter_map (scope_at hir) (used ++ key ∷ []) ≡ filter_map (scope_at hir) used ++ option_to_list scope
scopes_push hir used key scope e = filter_map-append (scope_at hir) used (key ∷ [])
    ∙ ap (λ z. filter_map (scope_at hir) used ++ z) (ap (λ z. cons_option z []) e ∙ listed_option scope)

distinct_scopes : (scopes : List ScopeId) (scope : Option ScopeId) → IsDistinct same_id scopes
    → is_fresh_scope scopes scope ≡ true → IsDistinct same_id (scopes ++ option_to_list scope)
distinct_scopes scopes None d f = subst (IsDistinct same_id) (sym (append-nil scopes)) d
distinct_scopes scopes (Some scope) d f =
    IsDistinct-push ids_equivalence scopes scope d (not-true (list_any (same_id scope) scopes) f)

-- a block more is used
pub marked_push : (hir : HirFunction) (old new : Marks) (key : BlockId) (block : BasicBlock) (rows : List Instruction)
    (place : ℕ) → AreMarked hir old → is_among old.used key ≡ false → place_of hir key ≡ Some place →
    basic_block hir key ≡ Some block → rows_of hir.instructions block.instructions ≡ Some rows
    → HasNoUnreachableSuccessor hir block.terminal → is_fresh_scope old.scopes (scope_named block.terminal) ≡ true →
    new.used ≡ old.used ++ key ∷ [] → new.bits ≡ slice_set old.bits place true
    → new.scopes ≡ old.scopes ++ option_to_list (scope_named block.terminal) → AreMarked hir new
marked_push hir old new key block rows place m n at e f alive fresh u b s =
    let scopes = scopes_push hir old.used key (scope_named block.terminal) (scope_of hir key block rows e f) in
    let Alive : BlockId → Type 0 = λ q. (z : Block) → block_at hir q ≡ Some z
    → HasNoUnreachableSuccessor hir z.terminal in
    let here : Alive key = λ z h. subst (HasNoUnreachableSuccessor hir)
    (sym (found_terminal hir key block z e h)) alive in
    let there : (q : BlockId) → is_among old.used q ≡ true
    → Alive q = λ q h. m.sound.alive q (Contains-from_any same_id-eq q old.used h) in
    record {
      sound = record {
        distinct = subst (IsDistinct same_id) (sym u) (IsDistinct-push ids_equivalence old.used key
            m.sound.distinct n);
        alive = λ q c. one_more Alive old.used key there here q
            (subst (λ us. is_among us q ≡ true) u (list_any-from_Contains ids_equivalence q new.used c));
        scopes_once = subst (IsDistinct same_id) (sym (ap (filter_map (scope_at hir)) u ∙ scopes))
            (distinct_scopes (filter_map (scope_at hir) old.used) (scope_named block.terminal) m.sound.scopes_once
            (subst (λ z. is_fresh_scope z (scope_named block.terminal) ≡ true) m.scopes fresh));
      };
      known = λ q h. one_more (λ k. IsSome (basic_block hir k)) old.used key m.known (ap is_some e) q
          (subst (λ us. is_among us q ≡ true) u h);
      told = subst (λ bits. TellUsed hir bits new.used) (sym b)
          (subst (TellUsed hir (slice_set old.bits place true)) (sym u)
          (one_more_told hir old.bits old.used key place m.told at));
      scopes = s ∙ ap (λ z. z ++ option_to_list (scope_named block.terminal)) m.scopes
          ∙ sym (ap (filter_map (scope_at hir)) u ∙ scopes);
    }

pub marking_push : (hir : HirFunction) (old new : Marks) (key : BlockId) (block : BasicBlock)
    → is_among old.used key ≡ false → basic_block hir key ≡ Some block → AreMarked hir new →
    new.used ≡ old.used ++ key ∷ [] → MarksBlocks hir (key ∷ []) (referenced_blocks block.terminal) old new (key ∷ [])
marking_push hir old new key block n e m u = record {
  used = u;
  marked = m;
  referenced = λ pending h. subst (λ us. AreReferenced hir us (referenced_blocks block.terminal ++ pending)) (sym u)
      (referenced_push hir old.used key block pending n e h);
}

all_at : {K : Type 0} (P : K → Type 0) (xs : List K) (x : K) (ys : List K) → AllByRecursion P (xs ++ x ∷ ys) → P x
all_at P [] x ys h = h.0
all_at P (z ∷ xs) x ys h = all_at P xs x ys h.1

-- a distinct list doesn't repeat an element
repeated : {K : Type 0} {eq : K → K → Bool} (laws : IsEquivalence eq) (xs : List K) (x : K) (ys : List K)
    → list_any (eq x) xs ≡ true → IsDistinct eq (xs ++ x ∷ ys) → ⊥
unfolding IsDistinct
repeated laws [] x ys h d = let bad : ⊥ = cc in bad
repeated {eq = eq} laws (z ∷ xs) x ys h d = go (eq x z) refl h (λ k. repeated laws xs x ys k d.1)
  where
    go : (b : Bool) → eq x z ≡ b → (b || list_any (eq x) xs) ≡ true → (list_any (eq x) xs ≡ true → ⊥) → ⊥
    go true e k f = let no : eq z x ≡ false = all_at (λ y. eq z y ≡ false) xs x ys d.0 in
        let yes : eq z x ≡ true = laws.symm z x ∙ e in let bad : ⊥ = cc in bad
    go false e k f = f k

-- a block that is marked wasn't used before
pub newly_used : {hir : HirFunction} {after : List BlockId} {old new : Marks} {key : BlockId}
    → MarksBlocks hir (key ∷ []) after old new (key ∷ []) → is_among old.used key ≡ false
newly_used {old = old} {key = key} m = go (is_among old.used key) refl
  where
    go : (b : Bool) → is_among old.used key ≡ b → b ≡ false
    go true e = absurd (repeated ids_equivalence old.used key [] e (subst (IsDistinct same_id) m.used m.marked.sound.distinct))
    go false e = refl

-- no tree may use a block twice
pub unusable_used : (hir : HirFunction) (frames : List Frame) (key : BlockId) (marks : Marks)
    → is_among marks.used key ≡ true → IsUnusable hir frames key marks
unusable_used hir frames key marks h block u l s = repeated ids_equivalence marks.used key [] h s.distinct

-- no tree may use a block that leads to one that ends in `Unreachable`
pub unusable_unreachable : (hir : HirFunction) (frames : List Frame) (key : BlockId) (marks : Marks) (block : BasicBlock)
    (rows : List Instruction) → basic_block hir key ≡ Some block →
    rows_of hir.instructions block.instructions ≡ Some rows → HasUnreachableSuccessor hir block.terminal
    → IsUnusable hir frames key marks
unusable_unreachable hir frames key marks block rows e f d whole u l s =
    let alive = s.alive key (Contains-from_any same_id-eq key (marks.used ++ key ∷ []) (among_push marks.used key))
    (filled block rows) (found_block hir key block rows e f) in
    true≢false (sym d ∙ alive)

-- no tree may open a scope twice
pub unusable_scope : (hir : HirFunction) (frames : List Frame) (key : BlockId) (marks : Marks) (block : BasicBlock)
    (rows : List Instruction) → AreMarked hir marks → basic_block hir key ≡ Some block →
    rows_of hir.instructions block.instructions ≡ Some rows
    → is_fresh_scope marks.scopes (scope_named block.terminal) ≡ false → IsUnusable hir frames key marks
unusable_scope hir frames key marks block rows m e f n whole u l s =
    go (scope_named block.terminal) (scopes_push hir marks.used key (scope_named block.terminal)
    (scope_of hir key block rows e f)) (subst (λ z. is_fresh_scope z (scope_named block.terminal) ≡ false) m.scopes
    n)
  where
    go : (scope : Option ScopeId) → filter_map (scope_at hir) (marks.used ++ key ∷ [])
        ≡ filter_map (scope_at hir) marks.used ++ option_to_list scope →
        is_fresh_scope (filter_map (scope_at hir) marks.used) scope ≡ false → ⊥
    go None p h = let bad : ⊥ = cc in bad
    go (Some scope) p h = repeated ids_equivalence (filter_map (scope_at hir) marks.used) scope [] (not-false _ h)
        (subst (IsDistinct same_id) p s.scopes_once)

-- a used block that is built again is referred to twice
pub twice_used : (hir : HirFunction) (marks : Marks) {handler : Option BlockId} (frames : List Frame) (key : BlockId)
    (block : BasicBlock) → CanBuildList hir marks handler frames key → basic_block hir key ≡ Some block →
    is_among marks.used key ≡ true → RuleFact hir Twice key
twice_used hir marks frames key block a e u = record {
  block = block;
  found = e;
  holds = referenced_twice hir marks.used key (pending_blocks frames) a.referenced
      (times_among key (pending_blocks frames ++ marks.used) (among_back (pending_blocks frames) marks.used key u));
}

-- so is a jump target
pub twice_target : (hir : HirFunction) (marks : Marks) {handler : Option BlockId} (frames : List Frame) (key : BlockId)
    (block : BasicBlock) → CanBuildList hir marks handler frames key → basic_block hir key ≡ Some block →
    is_jump_target frames key ≡ true → RuleFact hir Twice key
twice_target hir marks frames key block a e l = go (pending_or_used frames key l)
  where
    go : (is_among (pending_blocks frames) key ≡ true) ⊎ (is_among (used_blocks frames) key ≡ true)
        → RuleFact hir Twice key
    go (inl pending) = record {
      block = block;
      found = e;
      holds = referenced_twice hir marks.used key (pending_blocks frames) a.referenced
          (times_among key (pending_blocks frames ++ marks.used)
          (among_front (pending_blocks frames) marks.used key pending));
    }
    go (inr used) = twice_used hir marks frames key block a e (a.used_before key used)

-- the block that opens a scope
record Opener (hir : HirFunction) (used : List BlockId) (scope : ScopeId) : Type 0 where
  pub owner : BlockId
  pub among : is_among used owner ≡ true
  pub opens : scope_at hir owner ≡ Some scope

more_opener : (hir : HirFunction) (key : BlockId) (used : List BlockId) (scope : ScopeId) → Opener hir used scope
    → Opener hir (key ∷ used) scope
more_opener hir key used scope o =
    record {
      owner = o.owner;
      among = or_right (same_id o.owner key) (is_among used o.owner) o.among;
      opens = o.opens;
    }

opener : (hir : HirFunction) (used : List BlockId) (scope : ScopeId)
    → list_any (same_id scope) (filter_map (scope_at hir) used) ≡ true → Opener hir used scope
opener hir [] scope h = let bad : ⊥ = cc in absurd bad
opener hir (key ∷ used) scope h =
    go (scope_at hir key) refl h (λ k. more_opener hir key used scope (opener hir used scope k))
  where
    here : scope_at hir key ≡ Some scope → Opener hir (key ∷ used) scope
    here e = record { owner = key; among = ap (λ b. b || is_among used key) (ids_equivalence.refl key); opens = e }

    pick : (other : ScopeId) (b : Bool) → scope_at hir key ≡ Some other → same_id scope other ≡ b
        → (b || list_any (same_id scope) (filter_map (scope_at hir) used)) ≡ true →
        (list_any (same_id scope) (filter_map (scope_at hir) used) ≡ true → Opener hir (key ∷ used) scope)
        → Opener hir (key ∷ used) scope
    pick other true e s k f = here (e ∙ ap Some (sym (same_id-eq scope other s)))
    pick other false e s k f = f k

    go : (o : Option ScopeId) → scope_at hir key ≡ o → list_any (same_id scope)
        (cons_option o (filter_map (scope_at hir) used)) ≡ true →
        (list_any (same_id scope) (filter_map (scope_at hir) used) ≡ true → Opener hir (key ∷ used) scope)
        → Opener hir (key ∷ used) scope
    go None e k f = f k
    go (Some other) e k f = pick other (same_id scope other) e refl k f

opened_at : (hir : HirFunction) (key : BlockId) (scope : ScopeId) → scope_at hir key ≡ Some scope
    → BlockIs hir key (λ block. scope_named block.terminal ≡ Some scope)
unfolding block_at
opened_at hir key scope e = go (basic_block hir key) refl e
  where
    rows : (block : BasicBlock) (r : Option (List Instruction)) →
        option_and_then (λ (z : Block). scope_named z.terminal) (option_map (filled block) r) ≡ Some scope →
        scope_named block.terminal ≡ Some scope
    rows block None h = let bad : ⊥ = cc in absurd bad
    rows block (Some z) h = h

    go : (b : Option BasicBlock) → basic_block hir key ≡ b
        → option_and_then (λ (z : Block). scope_named z.terminal) (option_and_then (with_rows hir) b) ≡ Some scope →
        BlockIs hir key (λ block. scope_named block.terminal ≡ Some scope)
    go None p h = let bad : ⊥ = cc in absurd bad
    go (Some block) p h =
        record { block = block; found = p; holds = rows block (rows_of hir.instructions block.instructions) h }

-- a used block is another one than a block that isn't used
pub used_apart : (used : List BlockId) (key other : BlockId) → is_among used key ≡ false → is_among used other ≡ true
    → same_id other key ≡ false
used_apart used key other n u = go (same_id other key) refl
  where
    go : (b : Bool) → same_id other key ≡ b → b ≡ false
    go true e = let no = ap (is_among used) (same_id-eq other key e) in let bad : ⊥ = cc in absurd bad
    go false e = refl

-- a scope that isn't new is shared with a used block
pub shared_scope : (hir : HirFunction) (marks : Marks) (key : BlockId) (block : BasicBlock) → AreMarked hir marks
    → is_among marks.used key ≡ false → basic_block hir key ≡ Some block →
    is_fresh_scope marks.scopes (scope_named block.terminal) ≡ false → RuleFact hir ScopeTwice key
shared_scope hir marks key block m n e f =
    record {
      block = block;
      found = e;
      holds = go (scope_named block.terminal) refl
          (subst (λ z. is_fresh_scope z (scope_named block.terminal) ≡ false) m.scopes f);
    }
  where
    go : (scope : Option ScopeId) → scope_named block.terminal ≡ scope
        → is_fresh_scope (filter_map (scope_at hir) marks.used) scope ≡ false → SharesScope hir key block.terminal
    go None p h = let bad : ⊥ = cc in absurd bad
    go (Some scope) p h =
        let o = opener hir marks.used scope (not-false _ h) in
        record {
          scope = scope;
          opens = p;
          other = o.owner;
          apart = used_apart marks.used key o.owner n o.among;
          also =
              opened_at hir o.owner scope o.opens;
        }
