pub mod MarkedLabels
