pub mod SpanBytes
