pub mod SpelledLemmas
