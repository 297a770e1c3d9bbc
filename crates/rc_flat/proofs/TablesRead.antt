-- Tables that assemble to a function are that function's. So a JSON value gives exactly the function that its tables
-- assemble to.
use Rattle.std.proofs.Common.{◌≡◌, ◌∙◌, ◌↔◌, ℕ, ◌+◌, List, [], ◌∷◌, ◌++◌, Option, Some, refl, sym, ap, subst}
use Rattle.std.proofs.Common.{arith}
use Rattle.std.specs.Prelude.{length}
use Rattle.std.proofs.lemmas.List.{append_assoc, append-nil, length-append}
use Rattle.std.proofs.lemmas.Option.{option_and_then_some}
use Rattle.serde_json.specs.Data.{Data}
use Rattle.rc_tree.specs.Model.{ReactiveBlock, ReactiveFunction, ReactiveValue}
use Rattle.rc_flat.specs.Model.{FlatFunction, FlatStatement, NestedValue}
use Rattle.rc_flat.specs.Values.{inside_value, ListsValues, no_value, value}
use Rattle.rc_flat.specs.Blocks.{block, blocks_in, ListsBlocks, no_block, values_in}
use Rattle.rc_flat.specs.ReadingFlat.{flat_function_of}
use Rattle.rc_flat.specs.Tables.{GivesFunction, IsFlat}
use Rattle.rc_flat.specs.inside.Assembly.{at_end, body_of, Found, from_last, function_of, nested_from, only_block}
use Rattle.rc_flat.specs.inside.Assembly.{statement_from, through, assembled, wait_block, wait_value}
use Rattle.rc_flat.proofs.Waiting.{only_is, next_of, same, some_is}
use Rattle.rc_flat.proofs.ValuesAssemble.{AreNested, entry_is, front_nested, is_nested}
use Rattle.rc_flat.proofs.StatementsRead.{statements_are}
use Rattle.rc_flat.proofs.TablesAssemble.{assembles, waiting, waiting_values}

-- ---- values

-- values with entries aren't instructions
listed_nested : {next : ℕ} {queue : List ReactiveValue} {entries : List NestedValue} → ListsValues next queue entries
    → AreNested queue
listed_nested no_value = tt
listed_nested {next = next} (value {x = x} {later = later} {first = first} e rest) =
    (is_nested next x first e, front_nested later (inside_value x) (listed_nested rest))

-- the values that wait after the entries are listed by them; the blocks stay
record ValuesListed (blocks end : ℕ) (entries : List NestedValue) (w : Found) : Type 0 where
  pub lists : ListsValues w.next_value w.values entries
  pub numbers : w.next_value + length entries ≡ end + length w.values
  pub stays : w ≡ waiting_values blocks w.next_value w.values

values_listed : (blocks end : ℕ) (entries : List NestedValue) (w : Found)
    → through wait_value entries (waiting_values blocks end []) ≡ Some w → ValuesListed blocks end entries w
values_listed blocks end [] w h =
    subst (ValuesListed blocks end []) (some_is h) (record { lists = no_value; numbers = refl; stays = refl })
values_listed blocks end (first ∷ others) w h =
    option_and_then_some _ (through wait_value others (waiting_values blocks end [])) _ h (λ later e g.
    option_and_then_some _ (nested_from first later) _ g (λ x d r.
    let before = values_listed blocks end others later e in
    let has = entry_is first later x (listed_nested before.lists) d in
    let so_far : later.next_value + length others ≡ end + length later.values = before.numbers in
    let number : later.next_value ≡ x.1.next_value + length (inside_value x.0) = ap (λ z. z.next_value) has.1 in
    let size : length later.values ≡ length (x.1.values ++ inside_value x.0) = ap (λ z. length z.values) has.1 in
    subst (ValuesListed blocks end (first ∷ others)) (some_is r) (record {
      lists = value has.0 (subst (λ z. ListsValues z.next_value z.values others) has.1 before.lists);
      numbers = omega (arith, so_far, number, size, length-append x.1.values (inside_value x.0));
      stays = same (sym (ap (λ z. z.blocks) has.1) ∙ ap (λ z. z.blocks) before.stays) refl
          (sym (ap (λ z. z.next_block) has.1) ∙ ap (λ z. z.next_block) before.stays) refl;
    })))

-- ---- blocks

-- the blocks that wait after the entries are listed by them, and the values of these were taken
record BlocksListed (end next : ℕ) (vs : List ReactiveValue) (entries : List (List FlatStatement)) (w : Found) : Type 0 where
  pub roots : List ReactiveValue
  pub lists : ListsBlocks (next_of w) w.blocks entries roots
  pub numbers : w.next_block + length entries ≡ end + length w.blocks
  pub values : vs ≡ w.values ++ roots
  pub value_numbers : next ≡ w.next_value + length roots

blocks_listed : (end next : ℕ) (vs : List ReactiveValue) → AreNested vs → (entries : List (List FlatStatement)) (w : Found)
    → through wait_block entries (waiting (record { block = end; value = next }) [] vs) ≡ Some w
    → BlocksListed end next vs entries w
blocks_listed end next vs all [] w h =
    subst (BlocksListed end next vs []) (some_is h) (record {
      roots = [];
      lists = no_block;
      numbers = refl;
      values = sym (append-nil vs);
      value_numbers = omega arith;
    })
blocks_listed end next vs all (first ∷ others) w h =
    option_and_then_some _ (through wait_block others (waiting (record { block = end; value = next }) [] vs)) _ h (λ later e g.
    option_and_then_some _ (from_last statement_from first later) _ g (λ x d r.
    let before = blocks_listed end next vs all others later e in
    let are = statements_are first later x
    (front_nested later.values before.roots (subst AreNested before.values all)) d in
    let so_far : later.next_block + length others ≡ end + length later.blocks = before.numbers in
    let number : later.next_block ≡ x.1.next_block + length (blocks_in x.0) = ap (λ z. z.next_block) are.1 in
    let size : length later.blocks ≡ length (x.1.blocks ++ blocks_in x.0) = ap (λ z. length z.blocks) are.1 in
    let value_number : later.next_value ≡ x.1.next_value + length (values_in x.0) = ap (λ z. z.next_value) are.1 in
    subst (BlocksListed end next vs (first ∷ others)) (some_is r) (record {
      roots = values_in x.0 ++ before.roots;
      lists = subst (λ z. ListsBlocks (next_of x.1) (record { statements = x.0 } ∷ x.1.blocks) (z ∷ others)
          (values_in x.0 ++ before.roots)) (sym are.0)
          (block (subst (λ z. ListsBlocks (next_of z) z.blocks others before.roots) are.1 before.lists));
      numbers = omega (arith, so_far, number, size, length-append x.1.blocks (blocks_in x.0));
      values = before.values ∙ (ap (λ z. z.values ++ before.roots) are.1
          ∙ append_assoc x.1.values (values_in x.0) before.roots);
      value_numbers = omega (arith, before.value_numbers, value_number, length-append (values_in x.0) before.roots);
    })))

-- ---- functions

record AreTables (body : ReactiveBlock) (blocks : List (List FlatStatement)) (entries : List NestedValue) : Type 0 where
  pub roots : List ReactiveValue
  pub blocks_listed : ListsBlocks (record { block = 1; value = 0 }) (body ∷ []) blocks roots
  pub values_listed : ListsValues (length roots) roots entries

are_tables : (blocks : List (List FlatStatement)) (entries : List NestedValue) (body : ReactiveBlock)
    → body_of blocks entries ≡ Some body → AreTables body blocks entries
are_tables blocks entries body h =
    option_and_then_some _ (through wait_value entries (at_end blocks entries)) _ h (λ found e g.
    option_and_then_some _ (through wait_block blocks found) _ g (λ left d r.
    let v = values_listed (length blocks) (length entries) entries found e in
    let b = blocks_listed (length blocks) found.next_value found.values (listed_nested v.lists) blocks left
    (subst (λ s. through wait_block blocks s ≡ Some left) v.stays d) in
    let only = only_is left.blocks left.values body r in
    let roots : found.values ≡ b.roots = b.values ∙ ap (λ z. z ++ b.roots) only.1 in
    let count : length left.blocks ≡ 1 = ap length only.0 in
    let first : left.next_block ≡ 1 = omega (arith, b.numbers, count) in
    let size : length found.values ≡ length b.roots = ap length roots in
    let total : found.next_value ≡ length b.roots = omega (arith, v.numbers, size) in
    let last : left.next_value ≡ 0 = omega (arith, b.value_numbers, total) in
    record {
      roots = b.roots;
      blocks_listed = subst (λ z. ListsBlocks (record { block = 1; value = 0 }) z blocks b.roots) only.0
          (subst (λ z. ListsBlocks (record { block = 1; value = z }) left.blocks blocks b.roots) last
          (subst (λ z. ListsBlocks (record { block = z; value = left.next_value }) left.blocks blocks b.roots) first
          b.lists));
      values_listed = subst (λ z. ListsValues (length b.roots) z entries) roots
          (subst (λ z. ListsValues z found.values entries) total v.lists);
    }))

-- tables that assemble to a function are its
pub is_flat : (func : ReactiveFunction) (flat : FlatFunction) → assembled flat ≡ Some func → IsFlat func flat
unfolding assembled
is_flat func flat h =
    option_and_then_some _ (body_of flat.blocks flat.values) _ h (λ body e r.
    let tables = are_tables flat.blocks flat.values body e in
    subst (λ z. IsFlat z flat) (some_is r) (record {
      roots = tables.roots;
      blocks = tables.blocks_listed;
      values = tables.values_listed;
      span = refl;
      id = refl;
      name_hint = refl;
      params = refl;
      generator = refl;
      is_async = refl;
      directives = refl;
    }))

-- a JSON value gives the function that its tables assemble to, and no other one
pub given : (d : Data) (func : ReactiveFunction) → (function_of d ≡ Some func) ↔ GivesFunction d func
given d func = (
  (λ h. option_and_then_some _ (flat_function_of d) _ h (λ flat e r.
      record { flat = flat; reads = e; tables = is_flat func flat r })),
  (λ gives. rw gives.reads (assembles func gives.flat gives.tables)),
)

-- what a call answers that found what the tables assemble to
pub answered : (d : Data) (found : Option ReactiveFunction) → function_of d ≡ found → (func : ReactiveFunction)
    → (found ≡ Some func) ↔ GivesFunction d func
answered d found is func = ((λ h. (given d func).0 (is ∙ h)), (λ gives. sym is ∙ (given d func).1 gives))
