mod ByteLemmas
mod GrammarLemmas
mod NumberLemmas
mod SpellingLemmas
mod SplitLemmas
mod WordLemmas
