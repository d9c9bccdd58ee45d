pub mod PlainIsLooped
