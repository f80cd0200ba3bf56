pub mod QuestionLemmas
