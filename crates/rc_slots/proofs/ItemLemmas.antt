-- The items in the slots of a cache, and what a render makes of them.
use Rattle.std.proofs.Common.{◌≡◌, ◌∙◌, ◌+◌, ◌≤◌, ◌<◌, ◌++◌, ℕ, zero, suc, Bool, true, false, List, [], ◌∷◌, Option, Some, None, length}
use Rattle.std.proofs.Common.{map, take, drop, refl, sym, ap, arith, length-append}
use Rattle.std.specs.Prelude.{nat_eq, not, ◌&&◌, ◌||◌, if◌then◌else◌}
use Rattle.std.specs.Cmp.Lexicographic.{pointwise}
use Rattle.std.proofs.lemmas.Bool.{false≢true}
use Rattle.std.proofs.lemmas.List.{drop_at, take_at, length-drop, length-map, length-take-le, take-replicate, drop-replicate}
use Rattle.rc_slots.specs.declared.plan.ScopeSlots.{ScopeSlots}
use Rattle.rc_slots.specs.declared.cache.ScopeValues.{ScopeValues}
use Rattle.rc_slots.specs.Slots.{size, sizes}
use Rattle.rc_slots.specs.CacheRun.{Fits, AllFit, no_items, is_recomputed, item_after, answers, items_after}
use Rattle.rc_slots.specs.inside.CachedSlots.{values_in, has_value, is_filled, item_in, items_in, filled, slot_count, empty_slots}
use Rattle.rc_slots.specs.inside.CachedSlots.{kept_slots, slots_after}

-- an item by its parts
abbrev item_of : List ℕ → List ℕ → Option ScopeValues
item_of dependencies outputs = Some (record { dependencies = dependencies; outputs = outputs })

-- filled slots have the values that were put there
values-map : (values : List ℕ) → values_in (map Some values) ≡ values
values-map [] = refl
values-map (value ∷ values) = ap (λ vs. value ∷ vs) (values-map values)

-- lists of different lengths differ
and_false : (b : Bool) → (b && false) ≡ false
and_false true = refl
and_false false = refl

shorter : (xs ys : List ℕ) → length xs < length ys → pointwise nat_eq xs ys ≡ false
shorter xs [] less = absurd (omega (arith, less))
shorter [] (y ∷ ys) less = refl
shorter (x ∷ xs) (y ∷ ys) less =
    ap (λ b. nat_eq x y && b) (shorter xs ys (omega (arith, less))) ∙ and_false (nat_eq x y)

-- slots hold no more values than there are slots
fewer : (slots : List (Option ℕ)) → length (values_in slots) ≤ length slots
fewer [] = omega arith
fewer (None ∷ slots) = omega (arith, fewer slots)
fewer (Some value ∷ slots) = omega (arith, fewer slots)

-- comparing slot by slot gives the same as comparing the values in the slots
same_values : (slots : List (Option ℕ)) (values : List ℕ) → length slots ≡ length values
    → pointwise has_value slots values ≡ pointwise nat_eq (values_in slots) values
same_values [] [] same = refl
same_values [] (value ∷ values) same = refl
same_values (None ∷ slots) [] same = absurd (omega (arith, same))
same_values (None ∷ slots) (value ∷ values) same =
    sym (shorter (values_in slots) (value ∷ values) (omega (arith, fewer slots, same)))
same_values (Some kept ∷ slots) [] same = refl
same_values (Some kept ∷ slots) (value ∷ values) same =
    ap (λ b. nat_eq kept value && b) (same_values slots values (omega (arith, same)))

-- whether an entry with a value in its first slot recomputes
pub filled_recomputes : (entry : ScopeSlots) (slots : List (Option ℕ)) (given : ScopeValues) → length slots ≡ size entry
    → Fits entry given → is_filled slots ≡ true
    → not (pointwise has_value (take entry.dependencies slots) given.dependencies)
    ≡ is_recomputed entry (item_in entry.dependencies slots) given
filled_recomputes entry [] given room fits e = absurd (false≢true e)
filled_recomputes entry (None ∷ slots) given room fits e = absurd (false≢true e)
filled_recomputes entry (Some value ∷ slots) given room fits e =
    let mine = take entry.dependencies (Some value ∷ slots) in
    let some : nat_eq (size entry) 0 ≡ false = grind (arith, room) in
    let long : length mine ≡ length given.dependencies = length-take-le entry.dependencies (Some value ∷ slots) (omega (arith, room)) ∙ sym fits.dependencies in
    ap not (same_values mine given.dependencies long)
    ∙ sym (ap (λ b. b || not (pointwise nat_eq (values_in mine) given.dependencies)) some)

-- the item of an entry whose slots are empty, and of one whose slots were filled
item_empty : (dependencies count : ℕ) → item_in dependencies (empty_slots count) ≡ None
item_empty dependencies zero = refl
item_empty dependencies (suc count) = refl

item_made : (dependencies outputs : List ℕ) → 0 < length dependencies + length outputs
    → item_in (length dependencies) (map Some dependencies ++ map Some outputs) ≡ item_of dependencies outputs
item_made [] [] some = absurd (omega (arith, some))
item_made [] (value ∷ outputs) some = ap (λ values. item_of [] values) (values-map (value ∷ outputs))
item_made (value ∷ dependencies) outputs some =
    let firsts = map Some (value ∷ dependencies) in
    let lasts = map Some outputs in
    let count = length (value ∷ dependencies) in
    let long : length firsts ≡ count = length-map (value ∷ dependencies) Some in
    ap (λ values. item_of values (values_in (drop count (firsts ++ lasts)))) (ap values_in (take_at firsts lasts count long) ∙ values-map (value ∷ dependencies))
    ∙ ap (λ values. item_of (value ∷ dependencies) values) (ap values_in (drop_at firsts lasts count long) ∙ values-map outputs)

item_filled : (entry : ScopeSlots) (given : ScopeValues) → Fits entry given → nat_eq (size entry) 0 ≡ false
    → item_in entry.dependencies (filled given) ≡ Some given
item_filled entry given fits some =
    ap (λ count. item_in count (filled given)) (sym fits.dependencies)
    ∙ item_made given.dependencies given.outputs (grind (arith, some, fits.dependencies, fits.outputs))

no_slots : (dependencies : ℕ) (slots : List (Option ℕ)) → length slots ≡ 0 → item_in dependencies slots ≡ None
no_slots dependencies [] none = refl
no_slots dependencies (slot ∷ slots) none = absurd (omega (arith, none))

-- a render leaves an entry as many slots
pub kept-length : (given : ScopeValues) (recomputed : Bool) (slots : List (Option ℕ)) → length slots ≡ slot_count given
    → length (kept_slots given recomputed slots) ≡ slot_count given
kept-length given true slots long =
    length-append (map Some given.dependencies) (map Some given.outputs)
    ∙ ap (λ count. count + length (map Some given.outputs)) (length-map given.dependencies Some)
    ∙ ap (λ count. length given.dependencies + count) (length-map given.outputs Some)
kept-length given false slots long = long

-- an entry's item after a render
item_kept : (entry : ScopeSlots) (slots : List (Option ℕ)) (given : ScopeValues) → length slots ≡ size entry → Fits entry given
    → item_in entry.dependencies (kept_slots given (is_recomputed entry (item_in entry.dependencies slots) given) slots)
    ≡ item_after entry (item_in entry.dependencies slots) given
item_kept entry slots given room fits = by_size (nat_eq (size entry) 0) refl
  where
    item : Option ScopeValues
    item = item_in entry.dependencies slots

    recomputed : Bool
    recomputed = is_recomputed entry item given

    by_test : (b : Bool) → nat_eq (size entry) 0 ≡ false
        → item_in entry.dependencies (kept_slots given b slots) ≡ (if b then Some given else item)
    by_test true some = item_filled entry given fits some
    by_test false some = refl

    by_size : (b : Bool) → nat_eq (size entry) 0 ≡ b
        → item_in entry.dependencies (kept_slots given recomputed slots) ≡ item_after entry item given
    by_size true e =
        let none : size entry ≡ 0 = grind (arith, e) in
        let long = kept-length given recomputed slots (omega (arith, room, fits.dependencies, fits.outputs)) in
        no_slots entry.dependencies (kept_slots given recomputed slots) (omega (arith, long, none, fits.dependencies, fits.outputs))
        ∙ sym (no_slots entry.dependencies slots (omega (arith, room, none)))
        ∙ sym (ap (λ b. if b then item else (if recomputed then Some given else item)) e)
    by_size false e =
        by_test recomputed e ∙ sym (ap (λ b. if b then item else (if recomputed then Some given else item)) e)

-- all items after a render
pub kept_items : (entries : List ScopeSlots) (slots : List (Option ℕ)) (given : List ScopeValues) → length slots ≡ sizes entries
    → AllFit entries given
    → items_in entries (slots_after given (answers entries (items_in entries slots) given) slots)
    ≡ items_after entries (items_in entries slots) given
kept_items [] slots given room fit = refl
kept_items (entry ∷ entries) slots [] room fit = absurd fit
kept_items (entry ∷ entries) slots (given ∷ values) room fit =
    let mine = take (size entry) slots in
    let rest = drop (size entry) slots in
    let item = item_in entry.dependencies mine in
    let kept = kept_slots given (is_recomputed entry item given) mine in
    let later = slots_after values (answers entries (items_in entries rest) values) rest in
    let same : slot_count given ≡ size entry = omega (arith, fit.0.dependencies, fit.0.outputs) in
    let mine_long : length mine ≡ size entry = length-take-le (size entry) slots (omega (arith, room)) in
    let rest_long : length rest ≡ sizes entries = length-drop (size entry) slots ∙ omega (arith, room) in
    let long : length kept ≡ size entry = kept-length given (is_recomputed entry item given) mine (mine_long ∙ sym same) ∙ same in
    ap (λ count. items_in (entry ∷ entries) (kept_slots given (is_recomputed entry item given) (take count slots)
    ++ slots_after values (answers entries (items_in entries rest) values) (drop count slots))) same
    ∙ ap (λ slots. item_in entry.dependencies slots ∷ items_in entries (drop (size entry) (kept ++ later))) (take_at kept later (size entry) long)
    ∙ ap (λ slots. item_in entry.dependencies kept ∷ items_in entries slots) (drop_at kept later (size entry) long)
    ∙ ap (λ item. item ∷ items_in entries later) (item_kept entry mine given mine_long fit.0)
    ∙ ap (λ items. item_after entry item given ∷ items) (kept_items entries rest values rest_long fit.1)

-- a cache whose slots are all empty has no item
pub empty_items : (entries : List ScopeSlots) → items_in entries (empty_slots (sizes entries)) ≡ no_items entries
empty_items [] = refl
empty_items (entry ∷ entries) =
    let all = sizes (entry ∷ entries) in
    let mine : take (size entry) (empty_slots all) ≡ empty_slots (size entry) =
    take-replicate (size entry) all None (omega arith) in
    let rest : drop (size entry) (empty_slots all) ≡ empty_slots (sizes entries) =
    drop-replicate (size entry) all None ∙ ap empty_slots (omega arith) in
    ap (λ slots. item_in entry.dependencies slots ∷ items_in entries (drop (size entry) (empty_slots all))) mine
    ∙ ap (λ item. item ∷ items_in entries (drop (size entry) (empty_slots all))) (item_empty entry.dependencies (size entry))
    ∙ ap (λ slots. None ∷ items_in entries slots) rest
    ∙ ap (λ items. None ∷ items) (empty_items entries)
