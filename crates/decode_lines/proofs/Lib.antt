mod HalfLemmas
