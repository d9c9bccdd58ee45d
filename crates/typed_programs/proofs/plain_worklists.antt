pub mod LeadingWorks
pub mod LeadingTerms
pub mod PlainReads
pub mod LeadingConditions
