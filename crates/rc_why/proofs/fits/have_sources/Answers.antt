use Rattle.rc_why.proofs.fits.have_sources.Goals as goal

pub returns-then-are_as_many_whole_values : goal.returns-then-are_as_many_whole_values
returns-then-are_as_many_whole_values c =
    let whole = c.are_as_many_whole_values.ensures.0 c.if-are_as_many_whole_values.true in (
      λ e. record {
        some = whole.0;
        as_long = whole.1;
        whole = whole.2;
        among = c.are_among.ensures.0 e;
      },
      λ are. c.are_among.ensures.1 are.among,
    )
