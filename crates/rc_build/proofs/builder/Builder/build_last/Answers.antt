use Rattle.rc_build.proofs.builder.Builder.build_last.Goals as goal

pub returns-in-None : goal.returns-in-None
returns-in-None c = λ site context same. c.build_end.ensures site context
