-- A function has one pair of tables.
use Rattle.std.proofs.Common.{◌≡◌, ◌∙◌, ℕ, List, [], ◌∷◌, ◌++◌, Some, length, refl, sym, ap, subst}
use Rattle.rc_tree.specs.Model.{ReactiveBlock, ReactiveFunction, ReactiveValue}
use Rattle.rc_flat.specs.Blocks.{block, flat_statements, no_block, values_in, ListsBlocks, Next}
use Rattle.rc_flat.specs.Model.{FlatFunction, FlatStatement, NestedValue}
use Rattle.rc_flat.specs.ReadingFlat.{flat_function_of}
use Rattle.rc_flat.specs.ShownFlat.{flat_function_data}
use Rattle.rc_flat.specs.Tables.{GivesFunction, IsFlat}
use Rattle.rc_flat.specs.Values.{no_value, value, ListsValues}

some_same : {X : Type 0} (x y : X) → Some x ≡ Some y → x ≡ y
some_same x y e = cc

one_listing : (next : Next) (waiting : List ReactiveBlock) (xs ys : List (List FlatStatement))
    (us vs : List ReactiveValue) → ListsBlocks next waiting xs us → ListsBlocks next waiting ys vs → (xs ≡ ys) × (us ≡ vs)
one_listing next [] _ _ _ _ no_block no_block = (refl, refl)
one_listing next (x ∷ later) _ _ _ _ (block h) (block k) =
    let same = one_listing _ _ _ _ _ _ h k in
    (ap (λ z. flat_statements next x.statements ∷ z) same.0, ap (λ z. values_in x.statements ++ z) same.1)

one_table : (next : ℕ) (waiting : List ReactiveValue) (xs ys : List NestedValue) → ListsValues next waiting xs
    → ListsValues next waiting ys → xs ≡ ys
one_table next [] _ _ no_value no_value = refl
one_table next (x ∷ later) _ _ (value e h) (value f k) =
    let first = some_same _ _ (sym e ∙ f) in
    let others = one_table _ _ _ _ h k in
    cc

pub one_flat : (func : ReactiveFunction) (a b : FlatFunction) → IsFlat func a → IsFlat func b → a ≡ b
one_flat func a b h k =
    let blocks = one_listing _ _ _ _ _ _ h.blocks k.blocks in
    let values : a.values ≡ b.values = one_table _ _ _ _ h.values
    (subst (λ roots. ListsValues (length roots) roots b.values) (sym blocks.1) k.values) in
    λ i. record {
      span = (h.span ∙ sym k.span) i;
      id = (h.id ∙ sym k.id) i;
      name_hint = (h.name_hint ∙ sym k.name_hint) i;
      params = (h.params ∙ sym k.params) i;
      generator = (h.generator ∙ sym k.generator) i;
      is_async = (h.is_async ∙ sym k.is_async) i;
      blocks = blocks.0 i;
      values = values i;
      directives = (h.directives ∙ sym k.directives) i;
    }

-- the tables of a function give it, if one pair does
pub all_give : (func : ReactiveFunction) (flat : FlatFunction) → IsFlat func flat
    → flat_function_of (flat_function_data flat) ≡ Some flat
    → (other : FlatFunction) → IsFlat func other → GivesFunction (flat_function_data other) func
all_give func flat is again other same =
    subst (λ z. GivesFunction (flat_function_data z) func) (one_flat func flat other is same)
    (record { flat = flat; reads = again; tables = is })
