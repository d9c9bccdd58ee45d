pub mod EntryRows
