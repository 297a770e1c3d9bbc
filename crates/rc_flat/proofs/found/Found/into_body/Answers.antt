use Rattle.std.proofs.Common.{◌≡◌, false, true}
use Rattle.rc_flat.proofs.FoundLemmas.{other_blocks, other_values}
use Rattle.rc_flat.proofs.found.Found.into_body.Goals as goal
use Rattle.rc_flat.proofs.found.Found.into_body.Goals.{then-not-is_empty-via-else-not-is_empty+then-not-is_empty-2}
use Rattle.rc_flat.proofs.found.Found.into_body.Goals.{then-not-is_empty-via-then-not-is_empty}

pub returns-then-not-is_empty : goal.returns-then-not-is_empty
returns-then-not-is_empty c =
    elim c.then-not-is_empty.branch [
      | then-not-is_empty-via-then-not-is_empty w ↦
          other_blocks c.args.self.blocks c.args.self.values c.take_oldest.new.self c.in-Some.body
          c.in-Some.ensures.oldest
          (λ none. let e : false ≡ true = w.if-not-is_empty.ensures.1 none in cc)
      | then-not-is_empty-via-else-not-is_empty+then-not-is_empty-2 w ↦
          other_values c.args.self.blocks c.args.self.values c.take_oldest.new.self c.in-Some.body
          c.in-Some.ensures.oldest
          (λ none. let e : false ≡ true = w.if-not-is_empty-2.ensures.1 none in cc)
    ]
