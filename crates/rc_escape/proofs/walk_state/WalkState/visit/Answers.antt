use Rattle.std.proofs.Common.{◌≡◌, ◌∙◌, ap, arith, inl, inr, refl, reverse, sym, true}
use Rattle.rc_escape.specs.inside.WalkPlaces.{says_seen}
use Rattle.rc_escape.proofs.FrameLemmas.{visited_again}
use Rattle.rc_escape.proofs.RecordPlaces.{seen_is}
use Rattle.rc_escape.proofs.walk_state.WalkState.visit.Goals as goal

pub returns-in-Seen : goal.returns-in-Seen
returns-in-Seen c =
    let rows = c.args.rows.now in
    let state = c.args.self.now in
    let mark = c.mark.result in
    let at = c.in-Some.ensures in
    let seen : says_seen mark ≡ true = elim c.in-Seen.is [ inl e ↦ ap says_seen e | inr e ↦ ap says_seen e ] in record {
      fits = c.requires;
      visits = visited_again rows c.args.name c.args.forced mark state c.in-Some.place c.in-Some.node.now
          (reverse c.args.stack.now) at c.mark.ensures seen;
      met = λ node found. seen_is rows state c.args.name c.in-Some.place mark at.place_is (sym c.mark.ensures) ∙ seen;
      passed = refl;
      less = omega arith;
    }
