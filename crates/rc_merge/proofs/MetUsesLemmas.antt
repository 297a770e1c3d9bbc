-- Uses of places and of contexts, in any order.
use Rattle.std.proofs.Common.{◌≡◌, ◌∙◌, ◌+◌, ◌<◌, ℕ, Bool, true, false, List, [], ◌∷◌, Option, None, Some, Ok, refl, sym, ap}
use Rattle.std.proofs.Common.{subst, max, arith, drop, get_or, length, slice_get}
use Rattle.std.proofs.lemmas.List.{at_drop_more}
use Rattle.std.proofs.lemmas.Option.{get_or_from_slice_get, slice_get-get_or}
use Rattle.std.proofs.lemmas.Bool.Decides.{nat_tests}
use Rattle.std.specs.Prelude.{if◌then◌else◌, nat_lt, not}
use Rattle.std.specs.Map.{lookup}
use Rattle.indexmap.specs.IndexMap.{insert_entry}
use Rattle.rc_hir.specs.Model.{Environment, Place}
use Rattle.rc_hir.specs.Environment.{declaration_of}
use Rattle.rc_names.proofs.KeyedLemmas.{lookup-insert_other, lookup-insert_there}
use Rattle.rc_names.proofs.NumbersLemmas.{ids_equivalence, same_id-eq}
use Rattle.rc_names.specs.Numbers.{DeclarationId, EvaluationOrder, FunctionId, same_id, to_id}
use Rattle.rc_tree.specs.Step.{each}
use Rattle.rc_merge.proofs.LaterLemmas.{later_absorbed, later_is, later_swap, same_numbers}
use Rattle.rc_merge.specs.LastUses.{LastUses, later_of}
use Rattle.rc_merge.specs.inside.LastUsesMet.{context_of, is_from, put_later, use_steps, uses_of, with_contexts, with_places}
use Rattle.rc_merge.specs.inside.LastUsesMet.{with_use}

max_kept : (a b : ℕ) → nat_lt b a ≡ false → max a b ≡ b
max_kept a b e = grind (arith, nat_tests)

max_new : (a b : ℕ) → nat_lt b a ≡ true → max a b ≡ a
max_new a b e = grind (arith, nat_tests)

later_kept : (id last : EvaluationOrder) → nat_lt last.0 id.0 ≡ false → later_of id (Some last) ≡ Some last
later_kept id last e = same_numbers (later_of id (Some last)) (Some last)
    (later_is id (Some last) ∙ ap (λ n. Some n) (max_kept id.0 last.0 e))

later_new : (id last : EvaluationOrder) → nat_lt last.0 id.0 ≡ true → later_of id (Some last) ≡ Some id
later_new id last e = same_numbers (later_of id (Some last)) (Some id)
    (later_is id (Some last) ∙ ap (λ n. Some n) (max_new id.0 last.0 e))

lt_flip : (a b : ℕ) → nat_lt a b ≡ true → nat_lt b a ≡ false
lt_flip a b e = grind (arith, nat_tests)

not_true : (b : Bool) → not b ≡ true → b ≡ false
not_true true e = sym e
not_true false e = refl

not_false : (b : Bool) → not b ≡ false → b ≡ true
not_false true e = refl
not_false false e = sym e

-- what stays where there is a later id, and what is new where there is none
kept_is : (id : EvaluationOrder) (o : Option EvaluationOrder) → is_from id o ≡ true → later_of id o ≡ o
kept_is id None e = cc
kept_is id (Some last) e = later_kept id last (not_true (nat_lt last.0 id.0) e)

new_is : (id : EvaluationOrder) (o : Option EvaluationOrder) → is_from id o ≡ false → later_of id o ≡ Some id
new_is id None e = refl
new_is id (Some last) e = later_new id last (not_false (nat_lt last.0 id.0) e)

-- what is found under a name after the later id was kept under a key
put_found : (key : DeclarationId) (id : EvaluationOrder) (ids : List (DeclarationId × EvaluationOrder))
    (name : DeclarationId) → lookup (same_id name) (put_later same_id key id ids)
    ≡ (if same_id key name then later_of id (lookup (same_id name) ids) else lookup (same_id name) ids)
put_found key id ids name = by (same_id key name) refl (is_from id (lookup (same_id key) ids)) refl
  where
    by : (b : Bool) → same_id key name ≡ b → (t : Bool) → is_from id (lookup (same_id key) ids) ≡ t
        → lookup (same_id name) (if t then ids else insert_entry same_id ids key id)
        ≡ (if b then later_of id (lookup (same_id name) ids) else lookup (same_id name) ids)
    by true same true e = subst (λ k. lookup (same_id k) ids ≡ later_of id (lookup (same_id k) ids))
        (same_id-eq key name same) (sym (kept_is id (lookup (same_id key) ids) e))
    by true same false e =
        subst (λ k. lookup (same_id k) (insert_entry same_id ids key id) ≡ later_of id (lookup (same_id k) ids))
        (same_id-eq key name same) (lookup-insert_there ids_equivalence key id ids
        ∙ sym (new_is id (lookup (same_id key) ids) e))
    by false same true e = refl
    by false same false e = lookup-insert_other ids_equivalence key id ids name same

pub put_use : (env : Environment) (id : EvaluationOrder) (place : Place)
    (old new : List (DeclarationId × EvaluationOrder))
    → new ≡ put_later same_id (declaration_of env place.identifier) id old
    → uses_of new ≡ with_use env id place (uses_of old)
put_use env id place old new e =
    ap uses_of e ∙ (λ i name. put_found (declaration_of env place.identifier) id old name i)

-- there is a context at an index below the length
pub is_inside : (contexts : List (FunctionId × EvaluationOrder)) (i : ℕ) → i < length contexts
    → None ≡ slice_get contexts i → ⊥
is_inside contexts i below e =
    let found = slice_get-get_or contexts i (to_id 0, to_id 0) below in let bad : ⊥ = cc in bad

module _ (env : Environment) where
  use_swap : (a b : EvaluationOrder) (p q : Place) (u : LastUses)
      → with_use env a p (with_use env b q u) ≡ with_use env b q (with_use env a p u)
  use_swap a b p q u = λ i name. at name i
    where
      at : (name : DeclarationId)
          → with_use env a p (with_use env b q u) name ≡ with_use env b q (with_use env a p u) name
      at name = by (same_id (declaration_of env p.identifier) name) (same_id (declaration_of env q.identifier) name)
        where
          by : (x y : Bool) → (if x then later_of a (if y then later_of b (u name) else u name)
              else (if y then later_of b (u name) else u name))
              ≡ (if y then later_of b (if x then later_of a (u name) else u name)
              else (if x then later_of a (u name) else u name))
          by true true = later_swap a b (u name)
          by true false = refl
          by false true = refl
          by false false = refl

  places_swap : (id b : EvaluationOrder) (places : List Place) (q : Place) (u : LastUses)
      → with_places env id places (with_use env b q u) ≡ with_use env b q (with_places env id places u)
  places_swap id b [] q u = refl
  places_swap id b (p ∷ places) q u = ap (with_places env id places) (use_swap id b p q u)
      ∙ places_swap id b places q (with_use env id p u)

  both_swap : (a b : EvaluationOrder) (ps qs : List Place) (u : LastUses)
      → with_places env a ps (with_places env b qs u) ≡ with_places env b qs (with_places env a ps u)
  both_swap a b ps [] u = refl
  both_swap a b ps (q ∷ qs) u = both_swap a b ps qs (with_use env b q u)
      ∙ ap (with_places env b qs) (places_swap a b ps q u)

  contexts_swap : (contexts : List (FunctionId × EvaluationOrder)) (b : EvaluationOrder) (q : Place) (u : LastUses)
      → with_contexts env contexts (with_use env b q u) ≡ with_use env b q (with_contexts env contexts u)
  contexts_swap [] b q u = refl
  contexts_swap (c ∷ contexts) b q u =
      ap (with_contexts env contexts) (places_swap c.1 b (context_of env c.0) q u)
      ∙ contexts_swap contexts b q (with_places env c.1 (context_of env c.0) u)

  contexts_places : (contexts : List (FunctionId × EvaluationOrder)) (id : EvaluationOrder) (qs : List Place)
      (u : LastUses) → with_contexts env contexts (with_places env id qs u)
      ≡ with_places env id qs (with_contexts env contexts u)
  contexts_places [] id qs u = refl
  contexts_places (c ∷ contexts) id qs u =
      ap (with_contexts env contexts) (both_swap c.1 id (context_of env c.0) qs u)
      ∙ contexts_places contexts id qs (with_places env c.1 (context_of env c.0) u)

  -- an earlier use of a place adds nothing to a later one
  use_absorbed : (a b : EvaluationOrder) → nat_lt b.0 a.0 ≡ false → (p : Place) (u : LastUses)
      → with_use env a p (with_use env b p u) ≡ with_use env b p u
  use_absorbed a b e p u = λ i name. at name i
    where
      at : (name : DeclarationId) → with_use env a p (with_use env b p u) name ≡ with_use env b p u name
      at name = by (same_id (declaration_of env p.identifier) name)
        where
          by : (x : Bool) → (if x then later_of a (if x then later_of b (u name) else u name)
              else (if x then later_of b (u name) else u name)) ≡ (if x then later_of b (u name) else u name)
          by true = later_absorbed a b e (u name)
          by false = refl

  absorbed : (a b : EvaluationOrder) → nat_lt b.0 a.0 ≡ false → (ps : List Place) (u : LastUses)
      → with_places env a ps (with_places env b ps u) ≡ with_places env b ps u
  absorbed a b e [] u = refl
  absorbed a b e (p ∷ ps) u =
      ap (with_places env a ps) (sym (places_swap b a ps p (with_use env b p u)))
      ∙ ap (λ v. with_places env a ps (with_places env b ps v)) (use_absorbed a b e p u)
      ∙ absorbed a b e ps (with_use env b p u)

  -- the uses of a function's context at an id that isn't above another one, or at one that isn't below it
  module _ (id o : EvaluationOrder) (places : List Place) (rest : List (FunctionId × EvaluationOrder)) (u : LastUses)
    where
      kept_context : nat_lt o.0 id.0 ≡ false → with_contexts env rest (with_places env o places u)
          ≡ with_places env id places (with_contexts env rest (with_places env o places u))
      kept_context e = ap (with_contexts env rest) (sym (absorbed id o e places u))
          ∙ contexts_places rest id places (with_places env o places u)

      new_context : nat_lt id.0 o.0 ≡ false → with_contexts env rest (with_places env id places u)
          ≡ with_places env id places (with_contexts env rest (with_places env o places u))
      new_context e =
          ap (with_contexts env rest) (sym (absorbed o id e places u) ∙ both_swap o id places places u)
          ∙ contexts_places rest id places (with_places env o places u)

  -- a row that names a function
  context_in : (id : EvaluationOrder) (f : FunctionId) (cs : List (FunctionId × EvaluationOrder)) (u : LastUses)
      → with_contexts env (put_later same_id f id cs) u
      ≡ with_places env id (context_of env f) (with_contexts env cs u)
  context_in id f [] u = refl
  context_in id f (c ∷ cs) u =
      by (same_id f c.0) refl (is_from id (if same_id f c.0 then Some c.1 else lookup (same_id f) cs)) refl
      (context_in id f cs (with_places env c.1 (context_of env c.0) u))
    where
      by : (b : Bool) → same_id f c.0 ≡ b → (t : Bool)
          → is_from id (if b then Some c.1 else lookup (same_id f) cs) ≡ t
          → with_contexts env (put_later same_id f id cs) (with_places env c.1 (context_of env c.0) u)
          ≡ with_places env id (context_of env f)
          (with_contexts env cs (with_places env c.1 (context_of env c.0) u))
          → with_contexts env
          (if t then c ∷ cs else (if b then (c.0, id) ∷ cs else c ∷ insert_entry same_id cs f id)) u
          ≡ with_places env id (context_of env f) (with_contexts env (c ∷ cs) u)
      by true same true e later = subst (λ k. with_contexts env cs (with_places env c.1 (context_of env k) u)
          ≡ with_places env id (context_of env f) (with_contexts env cs (with_places env c.1 (context_of env k) u)))
          (same_id-eq f c.0 same) (kept_context id c.1 (context_of env f) cs u (not_true (nat_lt c.1.0 id.0) e))
      by true same false e later = subst (λ k. with_contexts env cs (with_places env id (context_of env k) u)
          ≡ with_places env id (context_of env f) (with_contexts env cs (with_places env c.1 (context_of env k) u)))
          (same_id-eq f c.0 same)
          (new_context id c.1 (context_of env f) cs u (lt_flip c.1.0 id.0 (not_false (nat_lt c.1.0 id.0) e)))
      by false same true e later = subst (λ t. with_contexts env (if t then cs else insert_entry same_id cs f id)
          (with_places env c.1 (context_of env c.0) u) ≡ with_places env id (context_of env f)
          (with_contexts env cs (with_places env c.1 (context_of env c.0) u))) e later
      by false same false e later = subst (λ t. with_contexts env (if t then cs else insert_entry same_id cs f id)
          (with_places env c.1 (context_of env c.0) u) ≡ with_places env id (context_of env f)
          (with_contexts env cs (with_places env c.1 (context_of env c.0) u))) e later

  -- visits of places, one after the other
  pub each_place : (id : EvaluationOrder) (ps : List Place) (u : LastUses)
      → each ((use_steps env).visit_place id) ps u ≡ Ok (tt, with_places env id ps u)
  each_place id [] u = refl
  each_place id (p ∷ ps) u = each_place id ps (with_use env id p u)

  -- the next one of some places
  pub next_place : (id : EvaluationOrder) (places : List Place) (i : ℕ) (d : Place) (key : DeclarationId)
      (old new : List (DeclarationId × EvaluationOrder)) (all : LastUses) → i < length places
      → key ≡ declaration_of env (get_or places i d).identifier → new ≡ put_later same_id key id old
      → all ≡ with_places env id (drop i places) (uses_of old)
      → all ≡ with_places env id (drop (i + 1) places) (uses_of new)
  next_place id places i d key old new all below named put so_far =
      so_far ∙ ap (λ f. f (uses_of old)) (at_drop_more (with_places env id) places i d below)
      ∙ ap (with_places env id (drop (i + 1) places))
      (sym (put_use env id (get_or places i d) old new (put ∙ ap (λ k. put_later same_id k id old) named)))

  -- the next one of some contexts
  pub next_context : (contexts : List (FunctionId × EvaluationOrder)) (i : ℕ) (context : FunctionId × EvaluationOrder)
      (old new all : LastUses) → i < length contexts → slice_get contexts i ≡ Some context
      → new ≡ with_places env context.1 (context_of env context.0) old
      → all ≡ with_contexts env (drop i contexts) old → all ≡ with_contexts env (drop (i + 1) contexts) new
  next_context contexts i context old new all below found added so_far =
      so_far ∙ ap (λ f. f old) (at_drop_more (with_contexts env) contexts i context below)
      ∙ ap (λ (c : FunctionId × EvaluationOrder). with_contexts env (drop (i + 1) contexts)
      (with_places env c.1 (context_of env c.0) old)) (get_or_from_slice_get contexts i context context found)
      ∙ ap (with_contexts env (drop (i + 1) contexts)) (sym added)

module _ (env : Environment) (old_uses new_uses : List (DeclarationId × EvaluationOrder))
    (old_contexts new_contexts : List (FunctionId × EvaluationOrder)) where
  pub use_behind : (id : EvaluationOrder) (place : Place) → uses_of new_uses ≡ with_use env id place (uses_of old_uses)
      → new_contexts ≡ old_contexts
      → with_contexts env new_contexts (uses_of new_uses)
      ≡ with_use env id place (with_contexts env old_contexts (uses_of old_uses))
  use_behind id place uses contexts = (λ i. with_contexts env (contexts i) (uses i))
      ∙ contexts_swap env old_contexts id place (uses_of old_uses)

  pub context_put : (id : EvaluationOrder) (f : FunctionId) → new_contexts ≡ put_later same_id f id old_contexts
      → new_uses ≡ old_uses → with_contexts env new_contexts (uses_of new_uses)
      ≡ with_places env id (context_of env f) (with_contexts env old_contexts (uses_of old_uses))
  context_put id f contexts uses = (λ i. with_contexts env (contexts i) (uses_of (uses i)))
      ∙ context_in env id f old_contexts (uses_of old_uses)
