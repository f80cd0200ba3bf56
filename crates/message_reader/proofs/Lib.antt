pub mod ClaimLemmas
pub mod ClaimTexts
pub mod FewItems
pub mod FlatLemmas
pub mod ItemLemmas
pub mod Rest
pub mod SpelledLemmas
