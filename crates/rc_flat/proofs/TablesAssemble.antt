-- The tables of a function assemble to it, so no two functions have the same tables.
use Rattle.std.proofs.Common.{◌≡◌, ◌∙◌, ℕ, ◌+◌, List, [], ◌∷◌, ◌++◌, Some, refl, sym, ap, subst, arith}
use Rattle.std.specs.Prelude.{length}
use Rattle.std.proofs.lemmas.List.{length-append}
use Rattle.rc_tree.specs.Model.{ReactiveBlock, ReactiveFunction, ReactiveValue}
use Rattle.rc_flat.specs.Model.{FlatFunction, FlatStatement, NestedValue}
use Rattle.rc_flat.specs.Values.{inside_value, ListsValues, no_value, value}
use Rattle.rc_flat.specs.Blocks.{block, blocks_in, flat_statements, ListsBlocks, Next, no_block, values_in}
use Rattle.rc_flat.specs.Tables.{IsFlat}
use Rattle.rc_flat.specs.inside.Assembly.{Found, through, assembled, wait_block, wait_value}
use Rattle.rc_flat.proofs.Waiting.{more_values, no_values, same, some_is, values_join}
use Rattle.rc_flat.proofs.ValuesAssemble.{entry_read}
use Rattle.rc_flat.proofs.StatementsAssemble.{statements_read}

-- ---- values

-- these values wait; no block does
abbrev pub waiting_values : ℕ → ℕ → List ReactiveValue → Found
waiting_values blocks next vs = record { blocks = []; values = vs; next_block = blocks; next_value = next }

-- the entries assemble to the values that they list
pub values_assemble : (blocks end : ℕ) {next : ℕ} {queue : List ReactiveValue} {entries : List NestedValue}
    → ListsValues next queue entries → next + length entries ≡ end + length queue
    → through wait_value entries (waiting_values blocks end []) ≡ Some (waiting_values blocks next queue)
values_assemble blocks end {next = next} no_value numbers =
    ap (λ z. Some (waiting_values blocks z [])) (omega (arith, numbers))
values_assemble blocks end {next = next} {queue = x ∷ later} {entries = first ∷ others} (value e rest) numbers =
    rw (
      values_assemble blocks end rest (omega (arith, numbers, length-append later (inside_value x))),
      entry_read (waiting_values blocks next later) x first e,
    ) refl

-- ---- blocks

abbrev pub waiting : Next → List ReactiveBlock → List ReactiveValue → Found
waiting next bs vs = record { blocks = bs; values = vs; next_block = next.block; next_value = next.value }

-- the entries assemble to the blocks that they list, and take the values that they list
pub blocks_assemble : (end : ℕ) (vs : List ReactiveValue) {next : Next} {queue : List ReactiveBlock}
    {entries : List (List FlatStatement)} {roots : List ReactiveValue} → ListsBlocks next queue entries roots
    → next.block + length entries ≡ end + length queue
    → through wait_block entries (more_values (waiting (record { block = end; value = next.value }) [] vs) roots)
    ≡ Some (waiting next queue vs)
blocks_assemble end vs {next = next} no_block numbers =
    ap (λ z. Some z) (sym (no_values (waiting (record { block = end; value = next.value }) [] vs))
    ∙ ap (λ z. waiting (record { block = z; value = next.value }) [] vs) (omega (arith, numbers)))
blocks_assemble end vs {next = next} {queue = x ∷ later} {entries = first ∷ others} (block {values = roots} rest) numbers =
    subst (λ w. through wait_block (flat_statements next x.statements ∷ others) w ≡ Some (waiting next (x ∷ later) vs))
    (values_join (waiting (record { block = end; value = next.value }) [] vs) (values_in x.statements) roots)
    (rw (
      blocks_assemble end (vs ++ values_in x.statements) rest
          (omega (arith, numbers, length-append later (blocks_in x.statements))),
      statements_read (waiting next later vs) x.statements,
    ) refl)

-- ---- functions

-- the tables assemble to the function
pub assembles : (func : ReactiveFunction) (flat : FlatFunction) → IsFlat func flat → assembled flat ≡ Some func
unfolding assembled
assembles func flat is =
    let values = values_assemble (length flat.blocks) (length flat.values) is.values (omega arith) in
    let roots : waiting_values (length flat.blocks) (length is.roots) is.roots
    ≡ more_values (waiting (record { block = length flat.blocks; value = 0 }) [] []) is.roots =
    same refl refl refl (omega arith)
    in
    let blocks = subst (λ w. through wait_block flat.blocks w ≡ Some (waiting (record { block = 1; value = 0 })
    (func.body ∷ []) [])) (sym roots) (blocks_assemble (length flat.blocks) [] is.blocks (omega arith)) in
    rw (values, blocks, is.span, is.id, is.name_hint, is.params, is.generator, is.is_async, is.directives) refl

-- no two functions have the same tables
pub no_other : (f g : ReactiveFunction) (flat : FlatFunction) → IsFlat f flat → IsFlat g flat → f ≡ g
no_other f g flat of_f of_g = some_is (sym (assembles f flat of_f) ∙ assembles g flat of_g)
