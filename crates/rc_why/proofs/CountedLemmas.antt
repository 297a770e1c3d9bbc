-- Scope blocks with the number of their `Return`s are those with whether there is one.
use Rattle.std.proofs.Common.{◌≡◌, ◌∙◌, ◌+◌, ℕ, zero, suc, false, [], ◌∷◌, ◌++◌, Contains, ap, arith, map, refl, subst, sym}
use Rattle.std.proofs.Common.{true≢false}
use Rattle.std.proofs.lemmas.List.{map-append}
use Rattle.std.specs.Prelude.{◌||◌}
use Rattle.rc_tree.proofs.CollectedRelated.{RelatedParts, collected_related}
use Rattle.rc_tree.proofs.ListedOnce.{from_map}
use Rattle.rc_tree.specs.Model.{ReactiveBlock}
use Rattle.rc_checks.specs.ScopeBlocks.{Contents, ScopeBlock, contents_of_parts, scope_blocks}
use Rattle.rc_why.specs.CountedReturns.{CountedBlock, CountedReturns, counted_blocks, counted_parts, is_some_number}
use Rattle.rc_why.specs.CountedReturns.{uncounted_block}

-- a sum isn't 0 where one of both isn't
some_sum : (a b : ℕ) → is_some_number (a + b) ≡ (is_some_number a || is_some_number b)
some_sum zero b = let e : zero + b ≡ b = omega arith in ap is_some_number e
some_sum (suc a) b = let e : suc a + b ≡ suc (a + b) = omega arith in ap is_some_number e

-- a part has the same `Return`s and scope blocks, counted or not
abbrev Same : CountedReturns → Contents → Type 0
Same x y = (y.returns ≡ is_some_number x.outside) × (y.blocks ≡ map uncounted_block x.blocks)

same_parts : RelatedParts Same counted_parts contents_of_parts
same_parts = record {
  joined = record {
    nothing = (refl, refl);
    both = λ x x1 y y1 e f. (
      (λ i. e.0 i || f.0 i) ∙ sym (some_sum x.outside x1.outside),
      (λ i. e.1 i ++ f.1 i) ∙ sym (map-append uncounted_block x.blocks x1.blocks),
    );
  };
  row = λ x. (refl, refl);
  value = λ id x. (refl, refl);
  place = λ id x. (refl, refl);
  returned = λ id x. (refl, refl);
  jump = λ target. (refl, refl);
  label = λ label. (refl, refl);
  scope = λ scope x y e.
      let last : CountedBlock = record { scope = scope; returns = x.outside } in (
        refl,
        (λ i. e.1 i ++ record { scope = scope; returns = e.0 i } ∷ [])
            ∙ sym (map-append uncounted_block x.blocks (last ∷ [])),
      );
  pruned_scope = λ scope x y e. e;
}

pub uncounted : (body : ReactiveBlock) → scope_blocks body ≡ map uncounted_block (counted_blocks body)
uncounted body = (collected_related Same counted_parts contents_of_parts same_parts body).1

-- where there is none, the number is 0
pub none_counted : (returns : ℕ) → is_some_number returns ≡ false → returns ≡ 0
none_counted zero none = refl
none_counted (suc n) none = absurd (true≢false none)

-- a scope block without a `Return` is counted with 0 of them
pub counted_none : (body : ReactiveBlock) (block : ScopeBlock) → Contains (scope_blocks body) block
    → block.returns ≡ false → Contains (counted_blocks body) (record { scope = block.scope; returns = 0 })
counted_none body block there none =
    let found = from_map uncounted_block (counted_blocks body) block
    (subst (λ blocks. Contains blocks block) (uncounted body) there) in
    let zero_there : found.0.returns ≡ 0 = none_counted found.0.returns (ap (λ b. b.returns) found.2 ∙ none) in
    let same : found.0 ≡ record { scope = block.scope; returns = 0 } =
    λ i. record { scope = ap (λ (b : ScopeBlock). b.scope) found.2 i; returns = zero_there i } in
    subst (Contains (counted_blocks body)) same found.1
