use Rattle.std.proofs.Common.{◌≡◌, ◌++◌, drop, option_map}
use Rattle.serde_json.specs.View.{items_view}
use Rattle.rc_doc.specs.Reading.{all_items}
use Rattle.rc_doc.proofs.fields.list_of_items.Given as goal

-- the items so far and those that are still to be read are all items
abbrev pub invariant-loop-value : goal.invariant-loop-value
invariant-loop-value g l =
    option_map (λ rest. l.items ++ rest) (all_items g.T.Read.reads (items_view (drop l.value-index l.values)))
    ≡ all_items g.T.Read.reads (items_view l.values)
