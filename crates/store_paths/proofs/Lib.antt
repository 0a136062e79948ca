mod EitherLemmas
