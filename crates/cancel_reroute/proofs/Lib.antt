pub mod ExtraLemmas
pub mod RankLemmas
pub mod RerouteLemmas
