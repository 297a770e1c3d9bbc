use Rattle.std.proofs.Common.{◌≡◌, ◌∙◌, Bool, true, false, cond, List, None, Some, refl, sym, arith, length, nat_lt, not, position}
use Rattle.std.proofs.lemmas.Bool.{ltb-false}
use Rattle.std.proofs.lemmas.List.Sums.{prefix_len-le-length}
use Rattle.std.proofs.lemmas.Map.Entries.{length-keys_of}
use Rattle.std.specs.List.{position_or_len}
use Rattle.std.specs.Map.{keys_of}
use Rattle.rc_names.specs.Numbers.{same_id}
use Rattle.rc_replay.proofs.graph.number_of.Goals as goal

no_position : {X : Type 0} (test : X → Bool) (xs : List X) → position test xs ≡ None → length xs ≡ position_or_len test xs
no_position {X} test xs none = by (nat_lt (position_or_len test xs) (length xs)) refl none
  where
    by : (b : Bool) → nat_lt (position_or_len test xs) (length xs) ≡ b
        → cond b (Some (position_or_len test xs)) None ≡ None → length xs ≡ position_or_len test xs
    by true is none = let bad : ⊥ = cc in absurd bad
    by false is none = let above = ltb-false (position_or_len test xs) (length xs) is in
        omega (arith, above, prefix_len-le-length (λ x. not (test x)) xs)

pub returns-in-None : goal.returns-in-None
returns-in-None c = let blocks = c.args.hir.now.body.blocks in
    c.len.ensures.value ∙ sym (length-keys_of blocks)
    ∙ no_position (same_id c.args.key) (keys_of blocks) (sym c.position.ensures ∙ c.in-None.is)
