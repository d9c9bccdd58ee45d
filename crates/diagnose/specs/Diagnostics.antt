pub mod AdmittedRules
