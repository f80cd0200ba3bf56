mod CheckTexts
mod EventRows
mod PlanTexts
mod ReplyTexts
mod RowTexts
mod Texts
