pub mod NormalizedLeads
pub mod SmallLeaves
pub mod NamedBases
pub mod LeadingInlinings
pub mod LeadingPrograms
pub mod StandingLabels
pub mod PlainPrograms
