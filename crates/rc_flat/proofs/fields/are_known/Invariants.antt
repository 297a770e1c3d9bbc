use Rattle.std.proofs.Common.{◌≡◌, map}
use Rattle.serde_json.specs.View.{members_view}
use Rattle.rc_doc.specs.Reading.{all_known}
use Rattle.rc_flat.proofs.fields.are_known.Given as goal

-- the keys so far are names
abbrev pub invariant-loop-key : goal.invariant-loop-key
invariant-loop-key l =
    all_known (map (λ name. name.now) l.names) (members_view l.key-iterator)
    ≡ all_known (map (λ name. name.now) l.names) (members_view l.members.entries)
