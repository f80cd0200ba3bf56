pub mod JournaledLines
