mod PlayLemmas
