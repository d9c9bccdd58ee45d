pub mod TermsSimulate
