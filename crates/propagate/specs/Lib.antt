pub mod LiveKeys
pub mod TimesFor
pub mod Settling
pub mod Unsettled
pub mod Reads
pub mod Asked
